-- The snippets of a syllable that holds its parts stand one after the other.
use Rattle.std.proofs.Common.{◌≡◌, ◌≤◌, ℕ, ◌+◌, ◌-◌, Bool, true, false, cond, nat_lt, ◌&&◌, List, [], ◌∷◌, ◌++◌, map, length, codes, encode_utf8_all, refl, sym, ap, subst, ◌∙◌, append_assoc, append-nil, arith, inl, inr}
use Rattle.std.specs.List.{flat_map}
use Rattle.std.proofs.lemmas.Bool.{and_parts, ltb-true}
use Rattle.gabc_text.specs.View.{bytes_of}
use Rattle.gabc_text.proofs.tokens.CountsOfTexts.{bytes_append}
use Rattle.gabc_body.proofs.texts_of_body.BodyFits.{bytes_encodes}
use Rattle.gabc_body.specs.Body.{empty_snippet}
use Rattle.gabc_body.specs.Holding.{ReadSnippet, bracket_with, HoldsNotes, HoldsParts}
use Rattle.gabc_body.specs.Syllable.{PlacedSyllable}
use Rattle.gabc_body.specs.declared.snippets.Snippet.{Snippet}
use Rattle.gabc_tree.specs.SyllableNodes.{text_len, has_notes}
use Rattle.gabc_tree.proofs.syllables.KeptSyllables.{InOrder}

flat_both : (f : ReadSnippet → List ℕ) (a b : List ReadSnippet) → flat_map f (a ++ b) ≡ flat_map f a ++ flat_map f b
flat_both f [] b = refl
flat_both f (s ∷ a) b = ap (λ (u : List ℕ). f s ++ u) (flat_both f a b) ∙ sym (append_assoc (f s) (flat_map f a) (flat_map f b))

abbrev kept_of : ReadSnippet → List ℕ
kept_of s = s.kept

-- the bytes before a snippet: the text, a `(`, and those before it with their marks
abbrev before_bytes : List ℕ → List ReadSnippet → ℕ
before_bytes text before = bytes_of (text ++ bracket_with kept_of before)

some_bytes : (text : List ℕ) (before : List ReadSnippet) → 1 ≤ before_bytes text before
some_bytes text before =
    let all = bytes_append text (bracket_with kept_of before) in
    let rest = bytes_append (codes "(") (flat_map (λ (s : ReadSnippet). kept_of s ++ codes "|") before) in
    omega (arith, all, rest)

one_more : (text : List ℕ) (before : List ReadSnippet) (s : ReadSnippet) → before_bytes text (before ++ s ∷ []) ≡ before_bytes text before + bytes_of s.kept + 1
one_more text before s =
    let f : ReadSnippet → List ℕ = λ (r : ReadSnippet). kept_of r ++ codes "|" in
    let is : text ++ bracket_with kept_of (before ++ s ∷ []) ≡ (text ++ bracket_with kept_of before) ++ (s.kept ++ codes "|") =
    ap (λ (u : List ℕ). text ++ (codes "(" ++ u)) (flat_both f before (s ∷ []) ∙ ap (λ (u : List ℕ). flat_map f before ++ u) (append-nil (s.kept ++ codes "|")))
    ∙ (ap (λ (u : List ℕ). text ++ u) (sym (append_assoc (codes "(") (flat_map f before) (s.kept ++ codes "|"))) ∙ sym (append_assoc text (bracket_with kept_of before) (s.kept ++ codes "|"))) in
    let all = ap bytes_of is ∙ bytes_append (text ++ bracket_with kept_of before) (s.kept ++ codes "|") in
    let last = bytes_append s.kept (codes "|") in
    omega (arith, all, last)

module _ (lines : ℕ) (characters whole text : List ℕ) (snippets : List Snippet) (h : HoldsNotes lines characters whole text snippets) where
  all_bytes : before_bytes text (h.earlier ++ h.last ∷ []) ≡ bytes_of whole
  all_bytes =
      let is : whole ≡ (text ++ bracket_with kept_of h.earlier) ++ (h.last.kept ++ codes ")") = h.whole_is ∙ sym (append_assoc text (bracket_with kept_of h.earlier) (h.last.kept ++ codes ")")) in
      let all = ap bytes_of is ∙ bytes_append (text ++ bracket_with kept_of h.earlier) (h.last.kept ++ codes ")") in
      let last = bytes_append h.last.kept (codes ")") in
      let more = one_more text h.earlier h.last in
      omega (arith, all, last, more)

  chain : (after before : List ReadSnippet) → h.earlier ++ h.last ∷ [] ≡ before ++ after → InOrder (bytes_of whole) (before_bytes text before - 1) (map (λ (s : ReadSnippet). s.snippet) after)
  chain [] before e =
      let all = ap (before_bytes text) (e ∙ append-nil before) in
      let is = all_bytes in
      let some = some_bytes text before in
      omega (arith, all, is, some)
  chain (s ∷ after) before e =
      let held = h.each before after s e in
      let from_is = held.stands.from_is ∙ ap bytes_of held.after in
      let to_is = held.stands.to_is ∙ bytes_append held.stands.prefix s.kept in
      let prefix = ap bytes_of held.after in
      let more = one_more text before s in
      let some = some_bytes text before in
      let next : before_bytes text (before ++ s ∷ []) - 1 ≡ s.snippet.span.to = omega (arith, to_is, prefix, more) in (
        omega (arith, from_is, some),
        omega (arith, from_is, to_is, prefix),
        subst (λ (n : ℕ). InOrder (bytes_of whole) n (map (λ (r : ReadSnippet). r.snippet) after)) next (chain after (before ++ s ∷ []) (e ∙ sym (append_assoc before (s ∷ []) after))),
      )

  all_chain : InOrder (bytes_of whole) (before_bytes text [] - 1) snippets
  all_chain = subst (InOrder (bytes_of whole) (before_bytes text [] - 1)) (sym h.snippets_are) (chain (h.earlier ++ h.last ∷ []) [] refl)

-- by where the first snippet begins
from_first : (len from : ℕ) (kept : List ℕ) (ss : List Snippet) → length kept ≡ len → InOrder len from ss → nat_lt (text_len kept ss) (length kept) ≡ true → InOrder len (text_len kept ss) ss
from_first len from kept [] e h n = absurd (let l = ltb-true (length kept) (length kept) n in omega (arith, l))
from_first len from kept (s ∷ ss) e h n = by (nat_lt 0 s.span.from && nat_lt s.span.from (length kept)) refl n
  where
    by : (o : Bool) → (nat_lt 0 s.span.from && nat_lt s.span.from (length kept)) ≡ o → nat_lt (cond o (s.span.from - 1) (length kept)) (length kept) ≡ true → InOrder len (cond o (s.span.from - 1) (length kept)) (s ∷ ss)
    by true f g = let l = ltb-true 0 s.span.from (and_parts (nat_lt 0 s.span.from) (nat_lt s.span.from (length kept)) f).0 in (omega (arith, l), h.1, h.2)
    by false f g = absurd (let l = ltb-true (length kept) (length kept) g in omega (arith, l))

no_notes : (kept : List ℕ) (s : Snippet) → s.span.from ≡ length kept → nat_lt (text_len kept (s ∷ [])) (length kept) ≡ true → ⊥
no_notes kept s e n = by (nat_lt 0 s.span.from && nat_lt s.span.from (length kept)) refl n
  where
    by : (o : Bool) → (nat_lt 0 s.span.from && nat_lt s.span.from (length kept)) ≡ o → nat_lt (cond o (s.span.from - 1) (length kept)) (length kept) ≡ true → ⊥
    by true f g = let l = ltb-true s.span.from (length kept) (and_parts (nat_lt 0 s.span.from) (nat_lt s.span.from (length kept)) f).1 in omega (arith, l, e)
    by false f g = let l = ltb-true (length kept) (length kept) g in omega (arith, l)

pub in_order : (input : List ℕ) (lines : ℕ) (s : PlacedSyllable) → HoldsParts input lines s.made → has_notes s ≡ true → InOrder (length s.made.kept) (text_len s.made.kept s.made.snippets) s.made.snippets
in_order input lines s (inl h) n =
    let size : bytes_of h.whole ≡ length s.made.kept = bytes_encodes h.whole ∙ sym (ap length h.kept_is) in
    subst (λ (len : ℕ). InOrder len (text_len s.made.kept s.made.snippets) s.made.snippets) size
    (from_first (bytes_of h.whole) _ s.made.kept s.made.snippets (sym size) (all_chain lines h.of_notes h.whole _ s.made.snippets h.notes) n)
in_order input lines s (inr h) n =
    absurd (no_notes s.made.kept (empty_snippet (encode_utf8_all h.whole)) (sym (ap length h.kept_is))
    (subst (λ (ss : List Snippet). nat_lt (text_len s.made.kept ss) (length s.made.kept) ≡ true) h.notes.snippets_are n))
