-- Where no limit is passed, the syllables are within the limits, and where they are, none is passed.
use Rattle.std.proofs.Common.{◌≡◌, ℕ, ◌+◌, ◌≤◌, ◌||◌, ◌&&◌, not, nat_lt, List, [], ◌∷◌, ◌++◌, length, map, Bool, true, false, cond, Some, None, sum_by, refl, sym, ap, subst, ◌∙◌, arith, length-append}
use Rattle.std.specs.List.{All, list_any, flat_map}
use Rattle.std.proofs.lemmas.Bool.Decides.{nat_tests}
use Rattle.std.proofs.lemmas.List.Elements.{All-nil, All-cons, All-head, All-tail, All-map, All-take, All-weaker}
use Rattle.std.proofs.lemmas.List.Folds.{list_any_none}
use Rattle.std.proofs.Math.Seq.{take-append_seam}
use Rattle.std.proofs.lemmas.List.Sums.{sum_by-cons}
use Rattle.std.proofs.lemmas.Bool.{or_parts}
use Rattle.gabc_places.specs.declared.code.Code.TheVariants.{F5, F7}
use Rattle.gabc_places.specs.declared.limits.Limits.{Limits}
use Rattle.gabc_body.specs.Body.{is_longer, is_over, is_none, is_full, code_by}
use Rattle.gabc_body.specs.Canonical.{canonical, canonical_in_place, canonicals, canonical_bytes, position_by, starts_word, next_starts, placed_syllables_by, with_positions}
use Rattle.gabc_body.specs.Syllable.{UnplacedSyllable, PlacedSyllable}
use Rattle.gabc_body.specs.WithinLimits.{CanonicalWithin, AreWithin}

-- a place in a word says whether a word begins there
pub begins_there : (b starts : Bool) → starts_word (position_by b starts) ≡ b
begins_there b starts = grind arith

-- ---- tests of lists

module _ {X : Type 0} (P : X → Type 0) (test : X → Bool) (none : (x : X) → test x ≡ false → P x) (holds : (x : X) → P x → test x ≡ false) where
  pub all_by_none : (xs : List X) → list_any test xs ≡ false → All P xs
  all_by_none [] h = All-nil P
  all_by_none (x ∷ xs) h = let both = or_parts (test x) (list_any test xs) h in All-cons P x xs (none x both.0) (all_by_none xs both.1)

  pub none_by_all : (xs : List X) → All P xs → list_any test xs ≡ false
  none_by_all xs h = list_any_none test xs (All-weaker P (λ x. test x ≡ false) holds xs h)

pub short_is : (limit : ℕ) (bytes : List ℕ) → is_longer limit bytes ≡ false → length bytes ≤ limit
short_is limit bytes h = grind (arith, nat_tests)

pub is_short : (limit : ℕ) (bytes : List ℕ) → length bytes ≤ limit → is_longer limit bytes ≡ false
is_short limit bytes h = grind (arith, nat_tests)

abbrev pub AllShort : ℕ → List (List ℕ) → Type 0
AllShort limit texts = All (λ (t : List ℕ). length t ≤ limit) texts

abbrev pub AllKeptShort : ℕ → List UnplacedSyllable → Type 0
AllKeptShort limit ms = All (λ (m : UnplacedSyllable). length m.kept ≤ limit) ms

-- ---- the codes

-- what is said where no limit is passed
pub record PassNone (limits : Limits) (head : ℕ) (made : List UnplacedSyllable) (kept : List ℕ) : Type 0 where
  pub kept_now : length kept ≤ limits.syllable
  pub kept_texts : AllKeptShort limits.syllable made
  pub canonical_texts : AllShort limits.syllable (canonicals true made)
  pub file : is_none made ≡ false → head + canonical_bytes made + 1 ≤ limits.input

module _ (limits : Limits) (head : ℕ) (made : List UnplacedSyllable) (kept : List ℕ) where
  abbrev kept_over : Bool
  kept_over = list_any (λ (m : UnplacedSyllable). is_longer limits.syllable m.kept) made

  abbrev canonical_over : Bool
  canonical_over = list_any (λ text. is_longer limits.syllable text) (canonicals true made)

  pub by_none : code_by limits head made kept ≡ None → PassNone limits head made kept
  by_none h = by (is_over limits.syllable made kept) (is_full limits.input head made) refl refl h
    where
      by : (a b : Bool) → is_over limits.syllable made kept ≡ a → is_full limits.input head made ≡ b → cond a (Some F5) (cond b (Some F7) None) ≡ None → PassNone limits head made kept
      by false false e f k =
          let rest = (or_parts (is_longer limits.syllable kept) (kept_over || canonical_over) e).1 in
          record {
            kept_now = short_is limits.syllable kept (or_parts (is_longer limits.syllable kept) (kept_over || canonical_over) e).0;
            kept_texts = all_by_none (λ (m : UnplacedSyllable). length m.kept ≤ limits.syllable) (λ (m : UnplacedSyllable). is_longer limits.syllable m.kept)
                (λ m. short_is limits.syllable m.kept) (λ m. is_short limits.syllable m.kept) made (or_parts kept_over canonical_over rest).0;
            canonical_texts = all_by_none (λ (t : List ℕ). length t ≤ limits.syllable) (λ t. is_longer limits.syllable t)
                (short_is limits.syllable) (is_short limits.syllable) (canonicals true made) (or_parts kept_over canonical_over rest).1;
            file = λ some. let g : nat_lt limits.input (head + canonical_bytes made + 1) ≡ false = ap (λ n. not n && nat_lt limits.input (head + canonical_bytes made + 1)) (sym some) ∙ f in grind (arith, nat_tests);
          }
      by _ _ e f k = absurd (cc)

  pub none_by : PassNone limits head made kept → code_by limits head made kept ≡ None
  none_by p =
      let over : is_over limits.syllable made kept ≡ false =
      ap (λ b. b || (kept_over || canonical_over)) (is_short limits.syllable kept p.kept_now)
      ∙ ap (λ b. b || canonical_over) (none_by_all (λ (m : UnplacedSyllable). length m.kept ≤ limits.syllable) (λ (m : UnplacedSyllable). is_longer limits.syllable m.kept)
      (λ m. short_is limits.syllable m.kept) (λ m. is_short limits.syllable m.kept) made p.kept_texts)
      ∙ none_by_all (λ (t : List ℕ). length t ≤ limits.syllable) (λ t. is_longer limits.syllable t) (short_is limits.syllable) (is_short limits.syllable) (canonicals true made) p.canonical_texts in
      let full : is_full limits.input head made ≡ false = grind (arith, nat_tests, p.file) in
      ap (λ b. cond b (Some F5) (cond (is_full limits.input head made) (Some F7) None)) over
      ∙ ap (λ b. cond b (Some F7) None) full

-- ---- syllables in their places

abbrev KeptFit : ℕ → List PlacedSyllable → Type 0
KeptFit limit ss = All (λ (s : PlacedSyllable). length s.made.kept ≤ limit) ss

abbrev CanonicalFit : ℕ → List PlacedSyllable → Type 0
CanonicalFit limit ss = All (λ (s : PlacedSyllable). length (canonical_in_place s) ≤ limit) ss

unmapped : {X Y : Type 0} (P : Y → Type 0) (f : X → Y) (xs : List X) → All P (map f xs) → All (λ x. P (f x)) xs
unmapped P f [] h = All-nil (λ x. P (f x))
unmapped P f (x ∷ xs) h = All-cons (λ y. P (f y)) x xs (All-head P (f x) (map f xs) h) (unmapped P f xs (All-tail P (f x) (map f xs) h))

-- in their places the syllables have the canonical texts that they have one after the other
canonicals_placed : (first : Bool) (ms : List UnplacedSyllable) → map canonical_in_place (placed_syllables_by first ms) ≡ canonicals first ms
canonicals_placed first [] = refl
canonicals_placed first (m ∷ ms) = rw (begins_there (first || m.text.word_start) (next_starts ms), canonicals_placed false ms) refl

module _ (limit : ℕ) where
  kept_placed : (first : Bool) (ms : List UnplacedSyllable) → AllKeptShort limit ms → KeptFit limit (placed_syllables_by first ms)
  kept_placed first [] h = All-nil (λ (s : PlacedSyllable). length s.made.kept ≤ limit)
  kept_placed first (m ∷ ms) h =
      All-cons (λ (s : PlacedSyllable). length s.made.kept ≤ limit) _ (placed_syllables_by false ms) (All-head (λ (n : UnplacedSyllable). length n.kept ≤ limit) m ms h)
      (kept_placed false ms (All-tail (λ (n : UnplacedSyllable). length n.kept ≤ limit) m ms h))

  canonical_placed : (first : Bool) (ms : List UnplacedSyllable) → AllShort limit (canonicals first ms) → CanonicalFit limit (placed_syllables_by first ms)
  canonical_placed first ms h = unmapped (λ (t : List ℕ). length t ≤ limit) canonical_in_place (placed_syllables_by first ms) (subst (AllShort limit) (sym (canonicals_placed first ms)) h)

  placed_canonical : (first : Bool) (ms : List UnplacedSyllable) → CanonicalFit limit (placed_syllables_by first ms) → AllShort limit (canonicals first ms)
  placed_canonical first ms h = subst (AllShort limit) (canonicals_placed first ms) (All-map (λ (t : List ℕ). length t ≤ limit) canonical_in_place (placed_syllables_by first ms) h)

bytes_placed : (first : Bool) (ms : List UnplacedSyllable) → length (flat_map canonical_in_place (placed_syllables_by first ms)) ≡ sum_by (λ (t : List ℕ). length t) (canonicals first ms)
bytes_placed first [] = refl
bytes_placed first (m ∷ ms) =
    let starts : Bool = first || m.text.word_start in
    length-append (canonical (starts_word (position_by starts (next_starts ms))) m) (flat_map canonical_in_place (placed_syllables_by false ms))
    ∙ ap (λ b. length (canonical b m) + length (flat_map canonical_in_place (placed_syllables_by false ms))) (begins_there starts (next_starts ms))
    ∙ ap (λ n. length (canonical starts m) + n) (bytes_placed false ms)
    ∙ sym (sum_by-cons (λ (t : List ℕ). length t) (canonical starts m) (canonicals false ms))

-- where no limit is passed, the syllables are within the limits, if the headers are
pub within_by : (limits : Limits) (head : ℕ) (made : List UnplacedSyllable) (kept : List ℕ) → head + 1 ≤ limits.input → PassNone limits head made kept → AreWithin limits head (with_positions made)
within_by limits head made kept short p = grind (arith, kept_placed, canonical_placed, bytes_placed)

-- and the other way round, where what is being read is no longer either
pub by_within : (limits : Limits) (head : ℕ) (made : List UnplacedSyllable) (kept : List ℕ) → length kept ≤ limits.syllable → AllKeptShort limits.syllable made → CanonicalWithin limits head (with_positions made) → PassNone limits head made kept
by_within limits head made kept now texts w = grind (arith, placed_canonical, bytes_placed)

-- ---- a prefix of the syllables

sums_prefix : (first : Bool) (ms more : List UnplacedSyllable) → sum_by (λ (t : List ℕ). length t) (canonicals first ms) ≤ sum_by (λ (t : List ℕ). length t) (canonicals first (ms ++ more))
sums_prefix first [] more = omega arith
sums_prefix first (m ∷ ms) more =
    let starts : Bool = first || m.text.word_start in
    let b : sum_by (λ (t : List ℕ). length t) (canonicals first (m ∷ (ms ++ more))) ≡ length (canonical starts m) + sum_by (λ (t : List ℕ). length t) (canonicals false (ms ++ more)) = sum_by-cons (λ (t : List ℕ). length t) (canonical starts m) (canonicals false (ms ++ more)) in
    omega (arith, sums_prefix false ms more, sum_by-cons (λ (t : List ℕ). length t) (canonical starts m) (canonicals false ms))

canonicals_prefix : (limit : ℕ) (first : Bool) (ms more : List UnplacedSyllable) → AllShort limit (canonicals first (ms ++ more)) → AllShort limit (canonicals first ms)
canonicals_prefix limit first [] more h = All-nil (λ (t : List ℕ). length t ≤ limit)
canonicals_prefix limit first (m ∷ ms) more h =
    let starts : Bool = first || m.text.word_start in
    All-cons (λ (t : List ℕ). length t ≤ limit) (canonical starts m) (canonicals false ms)
    (All-head (λ (t : List ℕ). length t ≤ limit) (canonical starts m) (canonicals false (ms ++ more)) h)
    (canonicals_prefix limit false ms more (All-tail (λ (t : List ℕ). length t ≤ limit) (canonical starts m) (canonicals false (ms ++ more)) h))

kept_prefix : (limit : ℕ) (ms more : List UnplacedSyllable) → AllKeptShort limit (ms ++ more) → AllKeptShort limit ms
kept_prefix limit ms more h = subst (AllKeptShort limit) (take-append_seam ms more) (All-take (λ (m : UnplacedSyllable). length m.kept ≤ limit) (length ms) (ms ++ more) h)

some_more : (ms more : List UnplacedSyllable) → is_none ms ≡ false → is_none (ms ++ more) ≡ false
some_more ms more h = grind arith

pub pass_none_before : (limits : Limits) (head : ℕ) (ms more : List UnplacedSyllable) (kept now : List ℕ) → length now ≤ limits.syllable → PassNone limits head (ms ++ more) kept → PassNone limits head ms now
pass_none_before limits head ms more kept now short p = record {
  kept_now = short;
  kept_texts = kept_prefix limits.syllable ms more p.kept_texts;
  canonical_texts = canonicals_prefix limits.syllable true ms more p.canonical_texts;
  file = λ some. let all = p.file (some_more ms more some) in let few : canonical_bytes ms ≤ canonical_bytes (ms ++ more) = sums_prefix true ms more in omega arith;
}
