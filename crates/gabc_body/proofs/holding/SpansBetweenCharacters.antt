-- The spans of a score's snippets begin and end between characters of the kept text.
use Rattle.std.proofs.Common.{◌≡◌, ℕ, inl, inr, List, [], ◌∷◌, ◌++◌, true, length, length-append, drop, drop_at, map, refl, sym, ◌∙◌, subst, append_assoc, arith}
use Rattle.std.specs.List.{All}
use Rattle.std.proofs.lemmas.List.Elements.{All-nil, All-cons, All-weaker}
use Rattle.std.proofs.lemmas.Str.{encodes-append}
use lib.Utf8.{encodes}
use Rattle.gabc_places.specs.declared.place.Span.{Span}
use Rattle.gabc_text.specs.ViewFacts.{StandsFor}
use Rattle.gabc_body.proofs.holding.SeamsOfText.{text_is}
use Rattle.gabc_body.proofs.holding.SnippetsLieInKeptText.{bytes_are_size}
use Rattle.gabc_body.proofs.texts_of_body.SeamsOfCharacters.{texts_begin}
use Rattle.gabc_body.specs.Body.{empty_snippet}
use Rattle.gabc_places.specs.declared.place.Char.{Char}
use Rattle.gabc_body.specs.Holding.{ReadSnippet, HoldsParts, HasWholeSnippets}
use Rattle.gabc_body.specs.SyllablesOfUnits.{NotesAre}
use Rattle.gabc_body.specs.UnitRead.{HoldsSomeUnit}
use Rattle.gabc_body.specs.Syllable.{UnplacedSyllable, PlacedSyllable, is_seam, slice, text_at}
use Rattle.gabc_body.specs.declared.snippets.Snippet.{Snippet}

-- after a part of a text a character begins, or the text ends
seam_after : (a b : List ℕ) → is_seam (drop (length (encodes a)) (encodes (a ++ b))) ≡ true
seam_after a b = grind (arith, encodes-append, drop_at, texts_begin)

-- so a span that stands for a part of a text
pub part_text : (whole : List ℕ) (span : Span) (part : List ℕ) → StandsFor whole span part → text_at span (encodes whole) ≡ slice span (encodes whole)
part_text whole span part h = grind (arith, bytes_are_size, append_assoc, seam_after, encodes-append, length-append, text_is)

-- ---- the snippets of a syllable

-- the text of a span is its bytes
abbrev pub IsWhole : List ℕ → Snippet → Type 0
IsWhole kept s = text_at s.span kept ≡ slice s.span kept

each_whole : (whole : List ℕ) (before xs : List ReadSnippet) → ((a b : List ReadSnippet) (s : ReadSnippet) → before ++ xs ≡ a ++ s ∷ b → StandsFor whole s.snippet.span s.kept)
    → All (IsWhole (encodes whole)) (map (λ s. s.snippet) xs)
each_whole whole before [] h = All-nil (IsWhole (encodes whole))
each_whole whole before (x ∷ xs) h =
    All-cons (IsWhole (encodes whole)) x.snippet (map (λ s. s.snippet) xs) (part_text whole x.snippet.span x.kept (h before xs x refl))
    (each_whole whole (before ++ x ∷ []) xs (λ a b s e. h a b s (sym (append_assoc before (x ∷ []) xs) ∙ e)))

end_seam : (bytes : List ℕ) → is_seam (drop (length bytes) bytes) ≡ true
end_seam [] = refl
end_seam (b ∷ bytes) = end_seam bytes

empty_whole : (bytes : List ℕ) → IsWhole bytes (empty_snippet bytes)
empty_whole bytes = text_is (empty_snippet bytes).span bytes (omega arith) (omega arith) (end_seam bytes) (end_seam bytes)

-- each snippet of a syllable that holds a unit
pub unit_snippets_whole : (lines : ℕ) (m : UnplacedSyllable) → HoldsSomeUnit lines m → HasWholeSnippets m
unit_snippets_whole lines m h = by h.unit.snippets refl h.holds.notes
  where
    by : (xss : List (List Char)) → h.unit.snippets ≡ xss → NotesAre lines h.unit xss h.holds.whole m.snippets → HasWholeSnippets m
    by [] e n = absurd (h.noted e)
    by (xs ∷ xss) e n =
        let k = n.holds in
        subst (λ k. All (IsWhole k) m.snippets) (sym h.holds.kept_is)
        (subst (All (IsWhole (encodes h.holds.whole))) (sym k.snippets_are) (each_whole h.holds.whole [] (k.earlier ++ k.last ∷ []) (λ a b s e. (k.each a b s e).stands)))

-- each snippet of a syllable that holds its parts
snippets_whole : (input : List ℕ) (lines : ℕ) (m : UnplacedSyllable) → HoldsParts input lines m → HasWholeSnippets m
snippets_whole input lines m (inl h) =
    let n = h.notes in
    subst (λ k. All (IsWhole k) m.snippets) (sym h.kept_is)
    (subst (All (IsWhole (encodes h.whole))) (sym n.snippets_are) (each_whole h.whole [] (n.earlier ++ n.last ∷ []) (λ a b s e. (n.each a b s e).stands)))
snippets_whole input lines m (inr h) = grind (arith, All-cons, empty_whole, All-nil)

pub all_whole : (input : List ℕ) (lines : ℕ) (ss : List PlacedSyllable) → All (λ (s : PlacedSyllable). HoldsParts input lines s.made) ss
    → All (λ (s : PlacedSyllable). HasWholeSnippets s.made) ss
all_whole input lines = All-weaker (λ (s : PlacedSyllable). HoldsParts input lines s.made) (λ (s : PlacedSyllable). HasWholeSnippets s.made) (λ s. snippets_whole input lines s.made)
