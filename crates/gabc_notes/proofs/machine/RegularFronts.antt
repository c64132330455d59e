-- The front of a snippet is regular, and so is a bar, and where the reading stands after it.
use Rattle.std.proofs.Common.{◌≡◌, ◌<◌, ◌≤◌, ◌+◌, ◌⊎◌, ℕ, List, [], ◌∷◌, ◌++◌, Bool, true, false, ◌||◌, ◌==◌, nat_lt, codes, map, Option, length, length-drop, take, drop, get_or, encode_utf8_all, refl, sym, ap, subst, ◌∙◌, arith, None, Some, IsUtf8, append-nil, append_assoc, length-append, if◌then◌else◌}
use Rattle.std.specs.List.{list_all}
use Rattle.std.specs.Str.{chars, IsAscii, IsCharBoundary}
use Rattle.std.proofs.lemmas.Bool.{eqb-true, ltb-true, and_parts}
use Rattle.std.proofs.lemmas.List.{take_more, take-append-drop, drop_more, length-take-le}
use Rattle.std.proofs.lemmas.List.Folds.{list_all-append}
use Rattle.std.proofs.lemmas.Str.{chars-append, chars-IsAscii, chars_past_char, encode_ascii, encodes-append, encodes-IsAscii, IsCharBoundary-from_take, IsUtf8-drop, IsUtf8-from_ascii, IsUtf8-past_char, drop_past_char}
use Rattle.gabc_patterns.specs.LongestPrefix.{IsLongestPrefix}
use Rattle.gabc_patterns.specs.Pattern.{is_in}
use Rattle.gabc_places.proofs.texts.CharactersOfStrings.{chars-none}
use Rattle.gabc_patterns.proofs.LongestPrefixIsFound.{IsLongestSoFar, bytes_more, longest_of, longest_same, longest_whole}
use Rattle.gabc_patterns.proofs.TextIsReadByCharacter.{one_read}
use lib.Utf8.{encode}
use Rattle.std.specs.Char.{len_utf8}
use Rattle.gabc_notes.specs.Regular.{IsRegular}
use Rattle.gabc_notes.specs.machine.Regular.{RegularState, begins_front, ends_regularly, front_state, goes_on_front, is_bar, is_front, item_at, item_from, longest_at, reading_at, regular_after}
use Rattle.gabc_notes.specs.declared.macro_prefix.MacroPrefix.TheVariants.{Closed}
use Rattle.gabc_notes.specs.declared.state.ItemState.{ItemState}
use Rattle.gabc_notes.specs.declared.state.ItemState.TheVariants.{Start, Bar, Body, CapitalZ, ClefPitch, Colon, Pitch, SmallZ}
use Rattle.gabc_notes.proofs.machine.RegularPrefixes.{Reads, reads_first, reads_more, reads_regular, regular_ends, stuck_there}

-- ---- fronts grow

pub front_more : (t : List ℕ) (c : ℕ) → 0 < length t → is_front t ≡ true → goes_on_front c ≡ true → is_front (t ++ c ∷ []) ≡ true
front_more t c some h g = grind (arith, list_all-append)

-- ---- each character of a front goes on with the reading

abbrev pub in_item : ItemState → RegularState
in_item s = record { item = s; name = Closed; fused = false }

-- what is the same at each of these is so at one of them
same_at : {X : Type 0} (f g : ℕ → X) (cs : List ℕ) (c : ℕ) → map f cs ≡ map g cs → is_in c cs ≡ true → f c ≡ g c
same_at f g [] c e h = absurd (cc)
same_at f g (d ∷ cs) c e h = (let more : map f cs ≡ map g cs = cc e in by (d == c) refl h (same_at f g cs c more))
  where
    by : (b : Bool) → (d == c) ≡ b → is_in c (d ∷ cs) ≡ true → (is_in c cs ≡ true → f c ≡ g c) → f c ≡ g c
    by b i h rest = grind arith

-- the states after a character of a front
at_each : (P : ItemState → Type 0) → P ClefPitch → P Pitch → P Body → (c : ℕ) → P (item_at c)
at_each P clef pitch body c = grind arith

from_each : (P : ItemState → Type 0) → P ClefPitch → P Pitch → P Body → (s : ItemState) (t : List ℕ) → P s → P (item_from s t)
from_each P clef pitch body s [] h = h
from_each P clef pitch body s (c ∷ t) h = from_each P clef pitch body (item_at c) t (at_each P clef pitch body c)

pub front_item : (c : ℕ) → reading_at (record { item = item_at c; fused = false }) ≡ in_item (item_at c)
front_item = at_each (λ (s : ItemState). reading_at (record { item = s; fused = false }) ≡ in_item s) refl refl refl

abbrev takes : ItemState → ℕ → Option RegularState
takes s c = regular_after (in_item s) c

abbrev goes_there : ℕ → Option RegularState
goes_there c = Some (in_item (item_at c))

begins : (c : ℕ) → begins_front c ≡ true → takes Start c ≡ goes_there c
begins c h = same_at (takes Start) goes_there (codes "acdefghijklmnp") c refl h

goes_on : (c : ℕ) → goes_on_front c ≡ true → (b : ℕ) → takes (item_at b) c ≡ goes_there c
goes_on c h b = at_each (λ (s : ItemState). takes s c ≡ goes_there c) (at ClefPitch refl) (at Pitch refl) (at Body refl) b
  where
    at : (s : ItemState) → map (takes s) (codes "acdefghijklmnp._'vswo") ≡ map goes_there (codes "acdefghijklmnp._'vswo") → takes s c ≡ goes_there c
    at s e = same_at (takes s) goes_there (codes "acdefghijklmnp._'vswo") c e h

run_reads : (t y : List ℕ) (b : ℕ) → list_all goes_on_front t ≡ true → Reads y (in_item (item_at b)) → Reads (y ++ t) (in_item (item_from (item_at b) t))
run_reads [] y b h r = subst (λ (l : List ℕ). Reads l (in_item (item_at b))) (sym (append-nil y)) r
run_reads (c ∷ t) y b h r =
    (let g = and_parts (goes_on_front c) (list_all goes_on_front t) h in
    subst (λ (l : List ℕ). Reads l (in_item (item_from (item_at c) t))) (append_assoc y (c ∷ []) t)
    (run_reads t (y ++ c ∷ []) c g.1 (reads_more y (in_item (item_at b)) (in_item (item_at c)) c r (goes_on c g.0 b))))

front_reads : (t : List ℕ) → is_front t ≡ true → Reads t (front_state t)
front_reads [] h = reads_first
front_reads (c ∷ t) h =
    (let g = and_parts (begins_front c) (list_all goes_on_front t) h in
    run_reads t (c ∷ []) c g.1 (reads_more [] (in_item Start) (in_item (item_at c)) c reads_first (begins c g.0)))

-- the state that the code makes of the last character
from_more : (t : List ℕ) (s : ItemState) (c : ℕ) → item_from s (t ++ c ∷ []) ≡ item_at c
from_more [] s c = refl
from_more (d ∷ t) s c = from_more t (item_at d) c

pub last_item : (l : List ℕ) (n : ℕ) → n < length l → item_from Start (take (n + 1) l) ≡ item_at (get_or l n 0)
last_item l n less = ap (item_from Start) (take_more l n 0 less) ∙ from_more (take n l) Start (get_or l n 0)

-- ---- texts whose reading is known

-- A text of ASCII. The reading stands there after it, where it is regular, and goes on with no mark.
pub record IsKnown (t : List ℕ) (state : RegularState) : Type 0 where
  pub ascii : IsAscii t
  pub reads : Reads t state
  pub ends : ends_regularly state ≡ true
  pub closes : regular_after state 41 ≡ None
  pub parts : regular_after state 124 ≡ None

pub none_ascii : IsAscii []
none_ascii i = omega arith

pub one_ascii : (c : ℕ) (t : List ℕ) → c < 128 → IsAscii t → IsAscii (c ∷ t)
one_ascii c t low rest i = grind arith

pub low : (cs : List ℕ) (c : ℕ) → map (λ d. nat_lt d 128) cs ≡ map (λ d. true) cs → is_in c cs ≡ true → c < 128
low cs c e h = ltb-true c 128 (same_at (λ d. nat_lt d 128) (λ d. true) cs c e h)

-- ---- fronts are

run_ascii : (t : List ℕ) → list_all goes_on_front t ≡ true → IsAscii t
run_ascii [] h = none_ascii
run_ascii (c ∷ t) h = (let g = and_parts (goes_on_front c) (list_all goes_on_front t) h in one_ascii c t (low (codes "acdefghijklmnp._'vswo") c refl g.0) (run_ascii t g.1))

front_ascii : (t : List ℕ) → is_front t ≡ true → IsAscii t
front_ascii t h = grind (arith, run_ascii)

pub front_known : (t : List ℕ) → is_front t ≡ true → IsKnown t (front_state t)
front_known t h = record {
  ascii = front_ascii t h;
  reads = front_reads t h;
  ends = from_each (λ (s : ItemState). ends_regularly (in_item s) ≡ true) refl refl refl Start t refl;
  closes = from_each (λ (s : ItemState). regular_after (in_item s) 41 ≡ None) refl refl refl Start t refl;
  parts = from_each (λ (s : ItemState). regular_after (in_item s) 124 ≡ None) refl refl refl Start t refl;
}

-- ---- bars are

abbrev bar_item : ℕ → ItemState
bar_item c = if c == 58 then Colon else if c == 90 then CapitalZ else if c == 122 then SmallZ else Bar

abbrev pub bar_state : List ℕ → RegularState
bar_state [] = in_item Start
bar_state (c ∷ []) = in_item (bar_item c)
bar_state _ = in_item Bar

two_colons : IsKnown (58 ∷ 58 ∷ []) (in_item Bar)
two_colons = record {
  ascii = one_ascii 58 (58 ∷ []) (omega arith) (one_ascii 58 [] (omega arith) none_ascii);
  reads = reads_more (58 ∷ []) (in_item Colon) (in_item Bar) 58 (reads_more [] (in_item Start) (in_item Colon) 58 reads_first refl) refl;
  ends = refl;
  closes = refl;
  parts = refl;
}

pub bar_known : (t : List ℕ) → is_bar t ≡ true → IsKnown t (bar_state t)
bar_known [] h = record { ascii = none_ascii; reads = reads_first; ends = refl; closes = refl; parts = refl }
bar_known (c ∷ []) h = record {
  ascii = one_ascii c [] (low (codes ",:;Zz") c refl h) none_ascii;
  reads = reads_more [] (in_item Start) (in_item (bar_item c)) c reads_first (same_at (takes Start) (λ d. Some (in_item (bar_item d))) (codes ",:;Zz") c refl h);
  ends = same_at (λ d. ends_regularly (in_item (bar_item d))) (λ d. true) (codes ",:;Zz") c refl h;
  closes = same_at (λ d. regular_after (in_item (bar_item d)) 41) (λ d. None) (codes ",:;Zz") c refl h;
  parts = same_at (λ d. regular_after (in_item (bar_item d)) 124) (λ d. None) (codes ",:;Zz") c refl h;
}
bar_known (c ∷ d ∷ []) h = grind (arith, and_parts, eqb-true, two_colons)
bar_known (c ∷ d ∷ e ∷ t) h = absurd (cc h)

-- ---- a known text is its longest regular prefix

known_bytes : (t : List ℕ) (state : RegularState) → IsKnown t state → length (encode_utf8_all t) ≡ length t
known_bytes t state known = ap (λ (l : List ℕ). length l) (encodes-IsAscii t known.ascii)

known_longest : (t : List ℕ) (state : RegularState) → IsKnown t state → IsLongestSoFar IsRegular t (length t)
known_longest t state known = record {
  prefix = t;
  rest = [];
  cut = sym (append-nil t);
  is = reads_regular t state known.reads known.ends;
  bytes = sym (known_bytes t state known);
  longest = λ u q e _.
      (let all : length (encode_utf8_all t) ≡ length (encode_utf8_all u) + length (encode_utf8_all q) =
      ap (λ (l : List ℕ). length (encode_utf8_all l)) e ∙ (ap (λ (l : List ℕ). length l) (encodes-append u q) ∙ length-append (encode_utf8_all u) (encode_utf8_all q)) in
      let same = known_bytes t state known in omega (arith, all, same));
}

pub marks : (m : ℕ) → (m == 41) || (m == 124) ≡ true → (m ≡ 41) ⊎ (m ≡ 124)
marks m h = grind arith

-- ---- a text that begins with a known one

module _ (text : List ℕ) (n : ℕ) (utf8 : IsUtf8 text) (within : n ≤ length text) (state : RegularState) (known : IsKnown (take n text) state) where
  known_utf8 : IsUtf8 (take n text)
  known_utf8 = IsUtf8-from_ascii (take n text) known.ascii

  pub known_cut : IsCharBoundary text n
  known_cut = IsCharBoundary-from_take text n utf8 within known_utf8

  pub rest_utf8 : IsUtf8 (drop n text)
  rest_utf8 = IsUtf8-drop text n utf8 known_cut

  known_whole : take n text ++ chars (drop n text) ≡ chars text
  known_whole =
      ap (λ (l : List ℕ). l ++ chars (drop n text)) (sym (chars-IsAscii (take n text) known.ascii))
      ∙ (sym (chars-append (take n text) (drop n text) known_utf8) ∙ ap chars (take-append-drop n text))

  known_so_far : IsLongestSoFar IsRegular (take n text) n
  known_so_far = subst (IsLongestSoFar IsRegular (take n text)) (length-take-le n text within) (known_longest (take n text) state known)

  -- where a mark follows, it is all
  pub known_alone : (m : ℕ) → n < length text → get_or text n 0 ≡ m → (m == 41) || (m == 124) ≡ true → IsLongestPrefix IsRegular text n
  known_alone m less at mark =
      longest_of IsRegular text (take n text) (chars (drop n text)) n utf8 known_whole known_so_far
      (λ c u v e is. stuck_there (take n text) u c state known.reads (stuck c (cc (e, follows))) is)
    where
      small : m < 128
      small = grind arith

      follows : chars (drop n text) ≡ m ∷ chars (drop (n + 1) text)
      follows =
          chars_past_char (drop n text) (drop (n + 1) text) m rest_utf8
          (drop_more text n 0 less ∙ (ap (λ (c : ℕ). c ∷ drop (n + 1) text) at ∙ ap (λ (l : List ℕ). l ++ drop (n + 1) text) (sym (encode_ascii m small))))

      stuck : (c : ℕ) → c ≡ m → regular_after state c ≡ None
      stuck c same = grind (arith, marks)

-- ---- the characters after a known text

-- These bytes of the text were read, and of them the longest regular prefix has `regular`. The reading stands in that state.
pub record IsReadTo (text : List ℕ) (state : RegularState) (read regular : ℕ) : Type 0 where
  pub done : List ℕ
  pub utf8 : IsUtf8 (drop read text)
  pub whole : done ++ chars (drop read text) ≡ chars text
  pub reads : Reads done state
  pub bytes : read ≡ length (encode_utf8_all done)
  pub longest : IsLongestSoFar IsRegular done regular

pub known_read : (text : List ℕ) (n : ℕ) → IsUtf8 text → n ≤ length text → (state : RegularState) → IsKnown (take n text) state → IsReadTo text state n n
known_read text n utf8 within state known = record {
  done = take n text;
  utf8 = rest_utf8 text n utf8 within state known;
  whole = known_whole text n utf8 within state known;
  reads = known.reads;
  bytes = sym (known_bytes (take n text) state known ∙ length-take-le n text within);
  longest = known_so_far text n utf8 within state known;
}

module _ (text : List ℕ) (state : RegularState) (read regular : ℕ) (h : IsReadTo text state read regular) where
  -- a character more
  module _ (next : RegularState) (c : ℕ) (later : List ℕ) (step : drop read text ≡ encode c ++ later) (after : regular_after state c ≡ Some next) where
    left : drop (read + len_utf8 c) text ≡ later
    left = drop_past_char text later read c step

    reads_on : Reads (h.done ++ c ∷ []) next
    reads_on = reads_more h.done state next c h.reads after

    bytes_on : read + len_utf8 c ≡ length (encode_utf8_all (h.done ++ c ∷ []))
    bytes_on = (let all = bytes_more h.done c in let before = h.bytes in omega (arith, all, before))

    longest_on : (b : Bool) → ends_regularly next ≡ b → IsLongestSoFar IsRegular (h.done ++ c ∷ []) (if b then read + len_utf8 c else regular)
    longest_on true ends = subst (IsLongestSoFar IsRegular (h.done ++ c ∷ [])) (sym bytes_on)
        (longest_whole IsRegular h.done c regular h.longest (reads_regular (h.done ++ c ∷ []) next reads_on ends))
    longest_on false ends = longest_same IsRegular h.done c regular h.longest
        (λ is. let e : false ≡ true = sym ends ∙ regular_ends (h.done ++ c ∷ []) next reads_on is in absurd (cc))

    pub past_char : IsReadTo text next (read + len_utf8 c) (longest_at next (read + len_utf8 c) regular)
    past_char = record {
      done = h.done ++ c ∷ [];
      utf8 = subst IsUtf8 (sym left) (IsUtf8-past_char (drop read text) later c h.utf8 step);
      whole = ap (λ (l : List ℕ). (h.done ++ c ∷ []) ++ chars l) left ∙ one_read h.done (drop read text) later (chars text) c h.utf8 step h.whole;
      reads = reads_on;
      bytes = bytes_on;
      longest = longest_on (ends_regularly next) refl;
    }

  -- where the reading does not go on
  pub stuck_at : (c : ℕ) (later : List ℕ) → IsUtf8 text → drop read text ≡ encode c ++ later → regular_after state c ≡ None → IsLongestPrefix IsRegular text regular
  stuck_at c later utf8 step none =
      longest_of IsRegular text h.done (chars (drop read text)) regular utf8 h.whole h.longest
      (λ d u v e is. let same : c ≡ d = cc (e, chars_past_char (drop read text) later c h.utf8 step) in
      stuck_there h.done u d state h.reads (ap (regular_after state) (sym same) ∙ none) is)

  -- or all is read
  pub at_end : IsUtf8 text → length text ≤ read → IsLongestPrefix IsRegular text regular
  at_end utf8 all =
      longest_of IsRegular text h.done (chars (drop read text)) regular utf8 h.whole h.longest
      (λ d u v e _. let f : [] ≡ d ∷ v = sym (chars-none (drop read text) (let n = length-drop read text in omega (arith, n, all))) ∙ e in absurd (cc))
