-- The reading of a regular snippet by bytes, which looks only for the end of a bracket, does what the reading by characters does.
use Rattle.std.proofs.Common.{◌≡◌, ◌<◌, ◌≤◌, ◌+◌, ◌⊎◌, ◌&&◌, ◌||◌, ◌==◌, ℕ, List, [], ◌∷◌, ◌++◌, Bool, true, false, Some, None, is_some, length, length-append, length-drop, take, drop, get_or, refl, sym, ap, subst, ◌∙◌, arith, IsUtf8, if◌then◌else◌, eqb-true, append-nil, append_assoc}
use Rattle.std.proofs.lemmas.Bool.{not-true, and_parts}
use Rattle.std.proofs.lemmas.List.{drop-drop, drop_more, length-take-le, take-append-drop, take_all}
use Rattle.std.proofs.lemmas.List.Folds.{list_all-append}
use Rattle.std.proofs.lemmas.Str.{byte_from_char, char_from_byte, chars-encodes, chars-IsAscii, drop_past_char, encode_ascii, encodes-chars, encodes-IsAscii, IsCharBoundary-before_ascii, IsUtf8-take, scalars-chars, length-encode, len_utf8_ascii}
use Rattle.std.specs.Char.{len_utf8}
use Rattle.std.specs.List.{list_all}
use Rattle.std.specs.Str.{chars, IsAscii}
use lib.Utf8.{encode, encodes, scalars}
use native.Mathlib.Decide.{dec_lt}
use Rattle.gabc_patterns.specs.LongestPrefix.{IsLongestPrefix}
use Rattle.gabc_notes.specs.Regular.{IsRegular}
use Rattle.gabc_notes.specs.machine.CharClass.{class_of_character}
use Rattle.gabc_notes.specs.machine.ItemMachine.{attribute_state, digit_of_prefix, next_state, prefix_with, raw_state, whole_at}
use Rattle.gabc_notes.specs.machine.Regular.{RegularState, closed_item, closed_point, front_state, is_front, is_inside, is_macro, longest_at, reading_at, regular_after, regular_by}
use Rattle.gabc_notes.specs.witness.ItemMachine.{example_prefix}
use Rattle.gabc_notes.specs.witness.StageEvents.{macro_digit}
use Rattle.gabc_notes.specs.declared.class.CharClass.TheVariants.{Other}
use Rattle.gabc_notes.specs.declared.macro_prefix.MacroPrefix.{MacroPrefix}
use Rattle.gabc_notes.specs.declared.macro_prefix.MacroPrefix.TheVariants.{Opened}
use Rattle.gabc_notes.specs.declared.regular.RegularPoint.{RegularPoint}
use Rattle.gabc_notes.specs.declared.state.ItemState.{ItemState}
use Rattle.gabc_notes.proofs.grammar.InsideRawIsAnOpenBracket.{on, raw_not_whole, raw_stays, step_in}
use Rattle.gabc_notes.proofs.machine.MachineReadsTable.{far}
use Rattle.gabc_notes.proofs.machine.StageEmitsItsEvents.{digit_is, name_alike}
use Rattle.gabc_notes.proofs.machine.RegularFronts.{IsReadTo, at_end, front_known, known_read, marks, past_char, stuck_at}

-- ---- outside brackets

outside_none : (s : ItemState) → raw_state s ≡ false → next_state s Other ≡ None
outside_none s e = grind arith

none_after : (p : RegularPoint) (c : ℕ) → raw_state p.item ≡ false → class_of_character c ≡ Other → regular_after (reading_at p) c ≡ None
none_after p c outside e = ap (regular_by (reading_at p) c) (ap (next_state p.item) e ∙ outside_none p.item outside)

pub at_mark : (p : RegularPoint) (m : ℕ) → raw_state p.item ≡ false → (m == 41) || (m == 124) ≡ true → regular_after (reading_at p) m ≡ None
at_mark p m outside mark = grind (arith, marks)

-- raw is entered by a `[`
pub enters : (p : RegularPoint) (z : ItemState) (c : ℕ) → raw_state p.item ≡ false → on p.item c ≡ Some z → raw_state z ≡ true
    → Some (reading_at (record { item = z; fused = p.fused })) ≡ regular_after (reading_at p) c
enters p z c outside e raw = by (step_in p.item z c e raw)
  where
    by : ((raw_state p.item ≡ true) × (c == 93 ≡ false)) ⊎ ((c ≡ 91) × (whole_at p.item ≡ true)) → Some (reading_at (record { item = z; fused = p.fused })) ≡ regular_after (reading_at p) c
    by h = grind arith

-- ---- inside a bracket

-- its name after the characters that it holds
abbrev name_from : MacroPrefix → List ℕ → MacroPrefix
name_from n [] = n
name_from n (c ∷ t) = name_from (prefix_with n c) t

-- it names a macro by its characters
named : (n : MacroPrefix) (t : List ℕ) → macro_digit (example_prefix n ++ t) ≡ digit_of_prefix (name_from n t)
named n [] = ap macro_digit (append-nil (example_prefix n)) ∙ digit_is n
named n (c ∷ t) = ap macro_digit (sym (append_assoc (example_prefix n) (c ∷ []) t)) ∙ (name_alike n c t ∙ named (prefix_with n c) t)

macro_ascii : (t : List ℕ) → is_macro t ≡ true → IsAscii t
macro_ascii t h = grind arith

-- and so by its bytes
named_by_bytes : (u : List ℕ) → scalars u ≡ true → is_macro u ≡ is_macro (encodes u)
named_by_bytes u s = by (is_macro u) (is_macro (encodes u)) refl refl
  where
    by : (a b : Bool) → is_macro u ≡ a → is_macro (encodes u) ≡ b → is_macro u ≡ is_macro (encodes u)
    by true b e f = ap is_macro (sym (encodes-IsAscii u (macro_ascii u e)))
    by false false e f = e ∙ sym f
    by false true e f = (let k = macro_ascii (encodes u) f in ap is_macro (sym (chars-encodes u s) ∙ chars-IsAscii (encodes u) k))

-- no `]` is in its characters where none is in its bytes
chars_inside : (u : List ℕ) → list_all is_inside (encodes u) ≡ true → list_all is_inside u ≡ true
chars_inside [] h = refl
chars_inside (c ∷ u) h = (let g = and_parts (list_all is_inside (encode c)) (list_all is_inside (encodes u)) (sym (list_all-append is_inside (encode c) (encodes u)) ∙ h) in by (c == 93) refl g.0 (chars_inside u g.1))
  where
    by : (b : Bool) → (c == 93) ≡ b → list_all is_inside (encode c) ≡ true → list_all is_inside u ≡ true → list_all is_inside (c ∷ u) ≡ true
    by b e f g = grind (arith, encode_ascii, eqb-true)

stays : (s : ItemState) (n : MacroPrefix) (f : Bool) (c : ℕ) → raw_state s ≡ true → is_inside c ≡ true
    → regular_after (record { item = s; name = n; fused = f }) c ≡ Some (record { item = s; name = prefix_with n c; fused = f })
stays s n f c raw inside = grind (arith, raw_stays, not-true)

-- the `]`
closes : (p : RegularPoint) (n : MacroPrefix) → raw_state p.item ≡ true
    → regular_after (record { item = p.item; name = n; fused = p.fused }) 93 ≡ (if attribute_state (closed_item p.item) && is_some (digit_of_prefix n) then None else Some (reading_at (closed_point p)))
closes p n raw = grind arith

-- the characters of a bracket, which stay inside
inside : (text u later : List ℕ) (s : ItemState) (n : MacroPrefix) (f : Bool) (read regular : ℕ) → IsReadTo text (record { item = s; name = n; fused = f }) read regular
    → raw_state s ≡ true → drop read text ≡ encodes u ++ later → list_all is_inside u ≡ true
    → IsReadTo text (record { item = s; name = name_from n u; fused = f }) (read + length (encodes u)) regular
inside text [] later s n f read regular h raw step all = subst (λ (k : ℕ). IsReadTo text (record { item = s; name = n; fused = f }) k regular) (omega arith) h
inside text (c ∷ u) later s n f read regular h raw step all =
    (let g = and_parts (is_inside c) (list_all is_inside u) all in
    let cut : drop read text ≡ encode c ++ (encodes u ++ later) = step ∙ append_assoc (encode c) (encodes u) later in
    let more = past_char text (record { item = s; name = n; fused = f }) read regular h (record { item = s; name = prefix_with n c; fused = f }) c (encodes u ++ later) cut (stays s n f c raw g.0) in
    let same : longest_at (record { item = s; name = prefix_with n c; fused = f }) (read + len_utf8 c) regular ≡ regular = rw (raw_not_whole s raw) refl in
    let size : (read + len_utf8 c) + length (encodes u) ≡ read + length (encode c ++ encodes u) = (let a = length-append (encode c) (encodes u) in let b = length-encode c in omega (arith, a, b)) in
    subst (λ (k : ℕ). IsReadTo text (record { item = s; name = name_from n (c ∷ u); fused = f }) k regular) size
    (inside text u later s (prefix_with n c) f (read + len_utf8 c) regular
    (subst (IsReadTo text (record { item = s; name = prefix_with n c; fused = f }) (read + len_utf8 c)) same more)
    raw (drop_past_char text (encodes u ++ later) read c cut) g.1))

-- ---- what the code does with a byte

module _ (text : List ℕ) (p : RegularPoint) (read regular : ℕ) (utf8 : IsUtf8 text) (h : IsReadTo text (reading_at p) read regular) (within : read < length text) (outside : raw_state p.item ≡ false) where
  abbrev byte : ℕ
  byte = get_or text read 0

  -- outside brackets it goes on with a byte
  pub past_byte : (next : RegularPoint) → Some (reading_at next) ≡ regular_after (reading_at p) byte → IsReadTo text (reading_at next) (read + 1) (longest_at (reading_at next) (read + 1) regular)
  past_byte next after = elim (dec_lt byte 128) [
    | yes l ↦ subst (λ (k : ℕ). IsReadTo text (reading_at next) (read + k) (longest_at (reading_at next) (read + k) regular)) (len_utf8_ascii byte l)
        (past_char text (reading_at p) read regular h (reading_at next) byte (drop (read + 1) text) (drop_more text read 0 within ∙ ap (λ (l : List ℕ). l ++ drop (read + 1) text) (sym (encode_ascii byte l))) (sym after))
    | no n ↦ absurd (let none = none_after p byte outside (far byte (omega arith)) in cc (none, after))
  ]

  -- as with the character that begins there
  as_char : (c : ℕ) (later : List ℕ) → drop read text ≡ encode c ++ later → regular_after (reading_at p) c ≡ regular_after (reading_at p) byte
  as_char c later e = elim (dec_lt c 128) [
    | yes l ↦ ap (regular_after (reading_at p)) (sym (byte_from_char (drop read text) later c e l) ∙ first)
    | no n ↦ elim (dec_lt byte 128) [
      | yes l ↦ ap (regular_after (reading_at p)) (char_from_byte (drop read text) later c e (omega (arith, first, l)) (let d = length-drop read text in omega (arith, d, within)) ∙ first)
      | no m ↦ none_after p c outside (far c (omega arith)) ∙ sym (none_after p byte outside (far byte (omega arith)))
    ]
  ]
    where
      first : get_or (drop read text) 0 0 ≡ byte
      first = ap (λ (l : List ℕ). get_or l 0 0) (drop_more text read 0 within)

  -- or does not
  pub no_byte : None ≡ regular_after (reading_at p) byte → IsLongestPrefix IsRegular text regular
  no_byte none = by h.utf8
    where
      by : IsUtf8 (drop read text) → IsLongestPrefix IsRegular text regular
      by ([], e) = absurd (let z = ap (λ (l : List ℕ). length l) e.1 in let d = length-drop read text in omega (arith, z, d, within))
      by (c ∷ u, e) = stuck_at text (reading_at p) read regular h c (encodes u) utf8 (sym e.1) (as_char c (encodes u) (sym e.1) ∙ sym none)

-- where a bracket was opened its text is looked through for a `]`
module _ (text : List ℕ) (p : RegularPoint) (read regular len : ℕ) (utf8 : IsUtf8 text) (h : IsReadTo text (reading_at p) read (longest_at (reading_at p) read regular)) (raw : raw_state p.item ≡ true)
    (within : len ≤ length (drop read text)) (all : list_all is_inside (take len (drop read text)) ≡ true) where
  abbrev rest : List ℕ
  rest = drop read text

  abbrev held : List ℕ
  held = take len rest

  abbrev in_bracket : MacroPrefix → RegularState
  in_bracket n = record { item = p.item; name = n; fused = p.fused }

  -- what it holds are characters
  held_read : IsUtf8 held → IsReadTo text (in_bracket (name_from Opened (chars held))) (read + len) regular
  held_read is =
      (let same : encodes (chars held) ≡ held = encodes-chars held is in
      let size : read + length (encodes (chars held)) ≡ read + len = ap (λ (n : ℕ). read + n) (ap (λ (l : List ℕ). length l) same ∙ length-take-le len rest within) in
      let opened : IsReadTo text (in_bracket Opened) read regular = rw (raw, raw_not_whole p.item raw) at h in
      subst (λ (k : ℕ). IsReadTo text (in_bracket (name_from Opened (chars held))) k regular) size
      (inside text (chars held) (drop len rest) p.item Opened p.fused read regular opened raw (sym (ap (λ (l : List ℕ). l ++ drop len rest) same ∙ take-append-drop len rest))
      (chars_inside (chars held) (ap (list_all is_inside) same ∙ all))))

  -- it is not closed
  pub unclosed : len ≡ length rest → IsLongestPrefix IsRegular text regular
  unclosed full = at_end text _ (read + len) regular (held_read (subst IsUtf8 (sym (take_all len rest (omega (arith, full)))) h.utf8)) utf8 (let d = length-drop read text in omega (arith, d, full))

  module _ (less : len < length rest) (at : get_or rest len 0 ≡ 93) where
    held_utf8 : IsUtf8 held
    held_utf8 = IsUtf8-take rest len h.utf8 (IsCharBoundary-before_ascii rest len less (omega (arith, at)))

    after_held : IsReadTo text (in_bracket (name_from Opened (chars held))) (read + len) regular
    after_held = held_read held_utf8

    bracket : drop (read + len) text ≡ encode 93 ++ drop (len + 1) rest
    bracket = grind (arith, drop-drop, drop_more, encode_ascii)

    name_held : is_some (digit_of_prefix (name_from Opened (chars held))) ≡ is_macro held
    name_held = ap is_some (sym (named Opened (chars held))) ∙ (named_by_bytes (chars held) (scalars-chars held held_utf8) ∙ ap is_macro (encodes-chars held held_utf8))

    closing : regular_after (in_bracket (name_from Opened (chars held))) 93 ≡ (if attribute_state (closed_item p.item) && is_macro held then None else Some (reading_at (closed_point p)))
    closing = closes p (name_from Opened (chars held)) raw ∙ ap (λ (b : Bool). if attribute_state (closed_item p.item) && b then None else Some (reading_at (closed_point p))) name_held

    -- it names a macro
    pub warned_at : (attribute_state (closed_item p.item) && is_macro held) ≡ true → IsLongestPrefix IsRegular text regular
    warned_at warns = stuck_at text _ (read + len) regular after_held 93 (drop (len + 1) rest) utf8 bracket (closing ∙ rw warns refl)

    -- the reading goes on after it
    pub past_bracket : (attribute_state (closed_item p.item) && is_macro held) ≡ false
        → IsReadTo text (reading_at (closed_point p)) (read + (len + 1)) (longest_at (reading_at (closed_point p)) (read + (len + 1)) regular)
    past_bracket quiet = subst (λ (k : ℕ). IsReadTo text (reading_at (closed_point p)) k (longest_at (reading_at (closed_point p)) k regular)) (omega arith)
        (past_char text _ (read + len) regular after_held (reading_at (closed_point p)) 93 (drop (len + 1) rest) bracket (closing ∙ rw quiet refl))

pub closed_outside : (s : ItemState) → raw_state (closed_item s) ≡ false
closed_outside s = grind arith

pub begun_to : (text : List ℕ) (p : RegularPoint) (n : ℕ) → IsUtf8 text → n ≤ length text → is_front (take n text) ≡ true → reading_at p ≡ front_state (take n text)
    → (raw_state p.item ≡ false) × IsReadTo text (reading_at p) n n
begun_to text p n utf8 within front at = grind (arith, known_read, front_known)
