-- A regular snippet of NABC is read by its bytes: each of its characters is of ASCII.
use Rattle.std.proofs.Common.{◌≡◌, ◌==◌, ◌&&◌, not, map, cond, Option, ◌<◌, ◌≤◌, ◌+◌, ◌⊎◌, inl, inr, ℕ, List, [], ◌∷◌, ◌++◌, Bool, true, false, length, length-drop, take, drop, get_or, encode_utf8_all, refl, sym, ap, subst, ◌∙◌, arith, None, Some, IsUtf8}
use Rattle.std.specs.List.{list_all}
use Rattle.std.specs.Prelude.{is_some}
use Rattle.std.specs.Str.{chars, IsAscii}
use Rattle.std.proofs.lemmas.Bool.{and_parts, eqb-true, not-true}
use Rattle.std.proofs.lemmas.Bool.Decides.{nat_tests}
use Rattle.std.proofs.lemmas.List.{take_more, take-append-drop, get_or-drop, length-take-le}
use Rattle.std.proofs.lemmas.Str.{byte_from_char, chars-append, chars-IsAscii, encodes-chars, encodes-IsAscii, IsAscii-append, IsCharBoundary-from_take, IsUtf8-drop, IsUtf8-from_ascii}
use Rattle.gabc_places.proofs.texts.CharactersOfStrings.{chars-none}
use Rattle.gabc_patterns.specs.LongestPrefix.{IsLongestPrefix}
use Rattle.gabc_patterns.proofs.LongestPrefixIsFound.{IsLongestSoFar, longest_first, longest_of, longest_same, longest_whole}
use Rattle.gabc_nabc.specs.CharClass.{class_of_character}
use Rattle.gabc_nabc.specs.Regular.{IsRegular}
use Rattle.gabc_nabc.specs.Names.{name_among}
use Rattle.gabc_nabc.specs.declared.names.TheConstants.{NAMES}
use Rattle.gabc_nabc.specs.machine.Regular.{regular_after, IsLoneCode}
use Rattle.gabc_nabc.specs.witness.DescriptorMachine.{whole_at}
use Rattle.gabc_nabc.specs.declared.class.NabcClass.TheVariants.{Other}
use Rattle.gabc_nabc.specs.declared.regular.RegularState.{RegularState}
use Rattle.gabc_nabc.specs.declared.state.DescriptorState.TheVariants.{Start}
use Rattle.gabc_nabc.proofs.machine.RegularPrefixes.{Reads, reads_first, reads_more, reads_regular, regular_ends, stuck_there}
use Rattle.gabc_nabc.proofs.machine.RegularShortWays.{foreign_stops}
use lib.Utf8.{encodes}

-- ---- what is not of ASCII stands in no snippet

other_above : (c : ℕ) → 128 ≤ c → class_of_character c ≡ Other
other_above c h = grind (arith, nat_tests)

low_or_high : (c : ℕ) → (c < 128) ⊎ (128 ≤ c)
low_or_high c = grind arith

stops_above : (r : RegularState) (c : ℕ) → 128 ≤ c → regular_after r c ≡ None
stops_above r c h = sym (foreign_stops r c (other_above c h))

kept_low : (r next : RegularState) (c : ℕ) → regular_after r c ≡ Some next → c < 128
kept_low r next c e = grind (arith, low_or_high, stops_above)

one_ascii : (c : ℕ) → c < 128 → IsAscii (c ∷ [])
one_ascii c h i = grind arith

-- ---- the first bytes of a text

-- The first n bytes of the text were read, of n of these the longest regular prefix. The reading stands in that state.
pub record IsReadByBytes (text : List ℕ) (state : RegularState) (n regular : ℕ) : Type 0 where
  pub within : n ≤ length text
  pub ascii : IsAscii (take n text)
  pub reads : Reads (take n text) state
  pub longest : IsLongestSoFar IsRegular (take n text) regular

pub read_none : (text : List ℕ) → IsReadByBytes text (record { part = Start; letter = 47 }) 0 0
read_none text = grind (arith, reads_first, longest_first, reads_regular)

-- a byte more
module _ (text : List ℕ) (state next : RegularState) (n regular : ℕ) (h : IsReadByBytes text state n regular) (less : n < length text) (after : regular_after state (get_or text n 0) ≡ Some next) where
  parts : take (n + 1) text ≡ take n text ++ get_or text n 0 ∷ []
  parts = take_more text n 0 less

  ascii_on : IsAscii (take (n + 1) text)
  ascii_on = subst IsAscii (sym parts) (IsAscii-append (take n text) (get_or text n 0 ∷ []) h.ascii (one_ascii (get_or text n 0) (kept_low state next (get_or text n 0) after)))

  reads_on : Reads (take n text ++ get_or text n 0 ∷ []) next
  reads_on = reads_more (take n text) state next (get_or text n 0) h.reads after

  bytes_on : length (encode_utf8_all (take n text ++ get_or text n 0 ∷ [])) ≡ n + 1
  bytes_on = grind (arith, encode_utf8_all, parts, encodes-IsAscii, ascii_on, length-take-le)

  pub read_whole : whole_at next.part ≡ true → IsReadByBytes text next (n + 1) (n + 1)
  read_whole ends = record {
    within = omega (arith, less);
    ascii = ascii_on;
    reads = subst (λ (l : List ℕ). Reads l next) (sym parts) reads_on;
    longest = subst (λ (l : List ℕ). IsLongestSoFar IsRegular l (n + 1)) (sym parts)
        (subst (IsLongestSoFar IsRegular (take n text ++ get_or text n 0 ∷ [])) bytes_on
        (longest_whole IsRegular (take n text) (get_or text n 0) regular h.longest (reads_regular (take n text ++ get_or text n 0 ∷ []) next reads_on ends)));
  }

  pub read_same : whole_at next.part ≡ false → IsReadByBytes text next (n + 1) regular
  read_same ends = record {
    within = omega (arith, less);
    ascii = ascii_on;
    reads = subst (λ (l : List ℕ). Reads l next) (sym parts) reads_on;
    longest = subst (λ (l : List ℕ). IsLongestSoFar IsRegular l regular) (sym parts)
        (longest_same IsRegular (take n text) (get_or text n 0) regular h.longest
        (λ is. let e : false ≡ true = sym ends ∙ regular_ends (take n text ++ get_or text n 0 ∷ []) next reads_on is in absurd (cc)));
  }

-- where the reading does not go on
module _ (text : List ℕ) (state : RegularState) (n regular : ℕ) (h : IsReadByBytes text state n regular) (utf8 : IsUtf8 text) where
  begun_utf8 : IsUtf8 (take n text)
  begun_utf8 = IsUtf8-from_ascii (take n text) h.ascii

  rest_utf8 : IsUtf8 (drop n text)
  rest_utf8 = IsUtf8-drop text n utf8 (IsCharBoundary-from_take text n utf8 h.within begun_utf8)

  whole : take n text ++ chars (drop n text) ≡ chars text
  whole =
      ap (λ (l : List ℕ). l ++ chars (drop n text)) (sym (chars-IsAscii (take n text) h.ascii))
      ∙ (sym (chars-append (take n text) (drop n text) begun_utf8) ∙ ap chars (take-append-drop n text))

  pub read_stuck : regular_after state (get_or text n 0) ≡ None → IsLongestPrefix IsRegular text regular
  read_stuck none = longest_of IsRegular text (take n text) (chars (drop n text)) regular utf8 whole h.longest
      (λ d u v e is. stuck_there (take n text) u d state h.reads (stuck d v e (low_or_high d)) is)
    where
      stuck : (d : ℕ) (v : List ℕ) → chars (drop n text) ≡ d ∷ v → (d < 128) ⊎ (128 ≤ d) → regular_after state d ≡ None
      stuck d v e (inl low) =
          (let first : get_or (drop n text) 0 0 ≡ d = byte_from_char (drop n text) (encodes v) d (sym (encodes-chars (drop n text) rest_utf8) ∙ ap encodes e) low in
          ap (regular_after state) (sym first ∙ (get_or-drop n text 0 0 ∙ ap (λ (k : ℕ). get_or text k 0) (omega arith))) ∙ none)
      stuck d v e (inr high) = stops_above state d high

  pub read_to_end : length text ≤ n → IsLongestPrefix IsRegular text regular
  read_to_end all = longest_of IsRegular text (take n text) (chars (drop n text)) regular utf8 whole h.longest
      (λ d u v e _. let f : [] ≡ d ∷ v = sym (chars-none (drop n text) (let l = length-drop n text in omega (arith, l, all))) ∙ e in absurd (cc))

-- ---- a code alone

abbrev start : RegularState
start = record { part = Start; letter = 47 }

-- these two letters are read as a code
record IsReadAsCode (a b : ℕ) : Type 0 where
  begun : RegularState
  ended : RegularState
  first : regular_after start a ≡ Some begun
  not_whole : whole_at begun.part ≡ false
  second : regular_after begun b ≡ Some ended
  whole : whole_at ended.part ≡ true

abbrev ends_code : Option RegularState → Bool
ends_code None = false
ends_code (Some r) = whole_at r.part

abbrev goes_on_to : Option RegularState → ℕ → Bool
goes_on_to None b = false
goes_on_to (Some r) b = not (whole_at r.part) && ends_code (regular_after r b)

read_as_code : (a b : ℕ) → goes_on_to (regular_after start a) b ≡ true → IsReadAsCode a b
read_as_code a b h = by (regular_after start a) refl h
  where
    then : (r : RegularState) → regular_after start a ≡ Some r → whole_at r.part ≡ false → (o : Option RegularState) → regular_after r b ≡ o → ends_code o ≡ true → IsReadAsCode a b
    then r e closed None f h = absurd (cc)
    then r e closed (Some s) f h = record { begun = r; ended = s; first = e; not_whole = closed; second = f; whole = h }

    by : (o : Option RegularState) → regular_after start a ≡ o → goes_on_to o b ≡ true → IsReadAsCode a b
    by None e h = absurd (cc)
    by (Some r) e h = let parts = and_parts (not (whole_at r.part)) (ends_code (regular_after r b)) h in then r e (not-true (whole_at r.part) parts.0) (regular_after r b) refl parts.1

abbrev Row : Type 0
Row = ℕ × ℕ × List ℕ

named_among : (a b : ℕ) (rows : List Row) → list_all (λ (row : Row). goes_on_to (regular_after start row.0) row.1) rows ≡ true → is_some (name_among a b rows) ≡ true → IsReadAsCode a b
named_among a b [] all h = absurd (cc)
named_among a b (row ∷ rows) all h =
    let both = and_parts (goes_on_to (regular_after start row.0) row.1) (list_all (λ (row : Row). goes_on_to (regular_after start row.0) row.1) rows) all in
    by both.0 (λ g. named_among a b rows both.1 g) ((row.0 == a) && (row.1 == b)) refl h
  where
    by : goes_on_to (regular_after start row.0) row.1 ≡ true → (is_some (name_among a b rows) ≡ true → IsReadAsCode a b)
        → (t : Bool) → ((row.0 == a) && (row.1 == b)) ≡ t → is_some (cond t (Some row.2) (name_among a b rows)) ≡ true → IsReadAsCode a b
    by here later true e h =
        let same = and_parts (row.0 == a) (row.1 == b) e in
        subst (λ (x : ℕ). IsReadAsCode x b) (eqb-true row.0 a same.0) (subst (λ (y : ℕ). IsReadAsCode row.0 y) (eqb-true row.1 b same.1) (read_as_code row.0 row.1 here))
    by here later false e h = later h

pub lone_code : (text : List ℕ) → IsUtf8 text → IsLoneCode text → IsLongestPrefix IsRegular text 2
lone_code text utf8 lone =
    let c = named_among (get_or text 0 0) (get_or text 1 0) (map (λ row. (row.0, row.1, row.2.now)) NAMES) refl lone.named in
    let less = lone.ends in
    read_stuck text c.ended 2 2
    (read_whole text c.begun c.ended 1 0 (read_same text start c.begun 0 0 (read_none text) (omega (arith, less)) c.first c.not_whole) (omega (arith, less)) c.second c.whole)
    utf8 (sym (foreign_stops c.ended (get_or text 2 0) lone.stops))
