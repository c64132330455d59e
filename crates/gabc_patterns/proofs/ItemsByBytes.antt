-- The items of a text one after the other, by their bytes.
use Rattle.std.proofs.Common.{◌≡◌, ℕ, zero, suc, List, [], ◌∷◌, ◌++◌, false, refl, sym, ap, ◌∙◌, subst, take, drop, length, map, slice_range, ◌≤◌, ◌+◌, ◌-◌, arith, length-drop, drop-drop, IsUtf8, Option, None, Some}
use Rattle.std.specs.List.{All, concat}
use Rattle.std.specs.Str.{chars}
use Rattle.std.proofs.lemmas.Str.{encodes-chars, encodes-append, scalars-chars, chars-encodes, length-le-encodes}
use Rattle.std.proofs.lemmas.List.{length-append, length-map}
use Rattle.std.proofs.lemmas.List.Elements.{All-nil, All-cons, All-head, All-tail}
use Rattle.std.proofs.lemmas.Simd.{map-map}
use Rattle.std.proofs.Math.Seq.{take-append_seam, drop-append_seam}
use lib.Utf8.{encodes, scalars}
use Rattle.gabc_patterns.specs.LongestItems.{Table, IsReading, IsSnippet}
use Rattle.gabc_patterns.specs.Derivative.{rows_end}
use Rattle.gabc_patterns.specs.Function.{items, items_within, longest_item}
use Rattle.gabc_patterns.specs.Items.{FollowOn, ItemSpan}
use Rattle.gabc_patterns.proofs.ItemsFunctionReads.{items_are}
use Rattle.gabc_patterns.proofs.ItemsOneByOne.{items_lie}
use Rattle.gabc_patterns.proofs.LongestPrefixIsFound.{scalars_parts}

all_before : {X Y : Type 0} (P : X → Type 0) (f : Y → X) (ys : List Y) → All P (map f ys) → All (λ y. P (f y)) ys
all_before P f [] h = All-nil (λ y. P (f y))
all_before P f (y ∷ ys) h = All-cons (λ y. P (f y)) y ys (All-head P (f y) (map f ys) h) (all_before P f ys (All-tail P (f y) (map f ys) h))

module _ {K : Type 0} where
  -- the kinds and places of items that stand one after the other from that byte on
  abbrev pub spans : ℕ → List (K × List ℕ) → List (ItemSpan K)
  spans at [] = []
  spans at (i ∷ is) = let to = at + length (encodes i.1) in (i.0, at, to) ∷ spans to is

  -- the kind of an item, and its characters
  abbrev pub read_span : List ℕ → ItemSpan K → K × List ℕ
  read_span text i = (i.0, chars (slice_range text i.1 i.2))

  lie : (at n : ℕ) (is : List (K × List ℕ)) → at + length (encodes (concat (map (λ (i : K × List ℕ). i.1) is))) ≤ n → All (λ (i : ItemSpan K). (i.1 ≤ i.2) × (i.2 ≤ n)) (spans at is)
  lie at n [] l = All-nil (λ (i : ItemSpan K). (i.1 ≤ i.2) × (i.2 ≤ n))
  lie at n (i ∷ is) l =
      let front : List ℕ = concat (map (λ (j : K × List ℕ). j.1) is) in
      let size = ap length (encodes-append i.1 front) in
      let rest = lie (at + length (encodes i.1)) n is (omega (arith, size, length-append (encodes i.1) (encodes front))) in
      All-cons (λ (j : ItemSpan K). (j.1 ≤ j.2) × (j.2 ≤ n)) _ _ (omega arith, omega (arith, size, length-append (encodes i.1) (encodes front))) rest

  as_many : (at : ℕ) (is : List (K × List ℕ)) → length (spans at is) ≡ length is
  as_many at [] = refl
  as_many at (i ∷ is) = ap suc (as_many (at + length (encodes i.1)) is)

module _ {K : Type 0} (table : Table K) where
  at_most : (n : ℕ) (t : List ℕ) → length (items_within table n t) ≤ n
  at_most zero t = omega arith
  at_most (suc n) t = go (longest_item table t) (λ u. at_most n u)
    where
      go : (o : Option (K × ℕ)) → ((u : List ℕ) → length (items_within table n u) ≤ n)
          → length (elim o as (λ _. List (K × List ℕ)) [ None ↦ [] | Some i ↦ (i.0, take i.1 t) ∷ items_within table n (drop i.1 t) ]) ≤ suc n
      go None F = omega arith
      go (Some i) F = let few = F (drop i.1 t) in omega arith

  reads : (text : List ℕ) (at : ℕ) (is : List (K × List ℕ)) (t : List ℕ) → at ≤ length text → IsUtf8 (drop at text) → chars (drop at text) ≡ t → IsReading table is t
      → (map (read_span text) (spans at is) ≡ is) × FollowOn at (spans at is) (length text)
  reads text at [] t l u e r =
      let none : length (drop at text) ≡ 0 = ap length (sym (encodes-chars (drop at text) u) ∙ ap encodes (e ∙ r)) in
      (refl, omega (arith, length-drop at text))
  reads text at ((k, w) ∷ is) t l u e (rest, f, has, long, r) =
      let here : List ℕ = drop at text in
      let split : chars here ≡ w ++ rest = e ∙ f in
      let s = scalars_parts w rest (ap scalars (sym split) ∙ scalars-chars here u) in
      let bytes : here ≡ encodes w ++ encodes rest = sym (encodes-chars here u) ∙ (ap encodes split ∙ encodes-append w rest) in
      let many : ℕ = length (encodes w) in
      let size : length here ≡ length (encodes w) + length (encodes rest) = ap length bytes ∙ length-append (encodes w) (encodes rest) in
      let n : at + many - at ≡ many = omega arith in
      let word : slice_range text at (at + many) ≡ encodes w = ap (λ (m : ℕ). take m here) n ∙ (ap (take many) bytes ∙ take-append_seam (encodes w) (encodes rest)) in
      let next : drop (at + many) text ≡ encodes rest = sym (drop-drop many at text) ∙ (ap (drop many) bytes ∙ drop-append_seam (encodes w) (encodes rest)) in
      let v : IsUtf8 (drop (at + many) text) = rw next (rest, (s.1, refl)) in
      let later = reads text (at + many) is rest (omega (arith, length-drop at text)) v (ap chars next ∙ chars-encodes rest s.1) r in (
        ap (λ (c : List ℕ). (k, chars c) ∷ map (read_span text) (spans (at + many) is)) word
            ∙ (ap (λ (c : List ℕ). (k, c) ∷ map (read_span text) (spans (at + many) is)) (chars-encodes w s.0)
            ∙ ap (λ (c : List (K × List ℕ)). (k, w) ∷ c) later.0),
        (refl, later.1),
      )

  -- where each item is made of a kind and its place
  module _ {I : Type 0} (span_of : I → ItemSpan K) (placed : ℕ → List (K × List ℕ) → List I) (are : (at : ℕ) (is : List (K × List ℕ)) → map span_of (placed at is) ≡ spans at is)
      (bytes : List ℕ) (u : IsUtf8 bytes) where
    abbrev texts : List (K × List ℕ)
    texts = items table (chars bytes)

    -- the items lie in the text
    pub lie_within : All (λ (i : I). ((span_of i).1 ≤ (span_of i).2) × ((span_of i).2 ≤ length bytes)) (placed 0 texts)
    lie_within =
        let (rest, e) = items_lie table (length (chars bytes)) (chars bytes) in
        let front : List ℕ = concat (map (λ (i : K × List ℕ). i.1) texts) in
        let f = ap length (sym (encodes-chars bytes u) ∙ (ap encodes e ∙ encodes-append front rest)) in
        let In : ItemSpan K → Type 0 = λ i. (i.1 ≤ i.2) × (i.2 ≤ length bytes) in
        all_before In span_of (placed 0 texts) (subst (All In) (sym (are 0 texts)) (lie 0 (length bytes) texts (omega (arith, f, length-append (encodes front) (encodes rest)))))

    -- they are no more than the bytes
    pub no_more_than_bytes : length (placed 0 texts) ≤ length bytes
    no_more_than_bytes = grind (arith, at_most, encodes-chars, length-map, as_many, length-le-encodes)

    -- of a snippet they are the reading, and each begins where the one before it ends
    pub read_text : rows_end table ≡ false → IsSnippet table (chars bytes)
        → IsReading table (map (λ (i : I). read_span bytes (span_of i)) (placed 0 texts)) (chars bytes) × FollowOn 0 (map span_of (placed 0 texts)) (length bytes)
    read_text none_empty s =
        let r : IsReading table texts (chars bytes) = items_are table none_empty (chars bytes) s in
        let p = reads bytes 0 texts (chars bytes) (omega arith) u refl r in
        let same : map (λ (i : I). read_span bytes (span_of i)) (placed 0 texts) ≡ texts = sym (map-map (read_span bytes) span_of (placed 0 texts)) ∙ (ap (map (read_span bytes)) (are 0 texts) ∙ p.0) in
        (subst (λ (is : List (K × List ℕ)). IsReading table is (chars bytes)) (sym same) r, subst (λ (l : List (ItemSpan K)). FollowOn 0 l (length bytes)) (sym (are 0 texts)) p.1)
