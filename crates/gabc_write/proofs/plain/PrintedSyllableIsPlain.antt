-- A printed syllable of plain text and of snippets that keep plain characters is plain.
use Rattle.std.proofs.Common.{◌≡◌, ℕ, List, [], ◌∷◌, ◌++◌, map, Bool, true, refl, sym, ap, ◌∙◌, codes, append_assoc, arith}
use Rattle.std.proofs.lemmas.Bool.{and_parts, and_from}
use Rattle.std.specs.List.{list_all, flat_map}
use Rattle.gabc_text.specs.Events.{codes_of}
use Rattle.gabc_text.specs.ViewFacts.{view_facts}
use Rattle.gabc_text.specs.Printed.{print}
use Rattle.gabc_body.specs.Holding.{ReadSnippet, IsHeld, in_brackets}
use Rattle.gabc_write.specs.PlainText.{IsText}
use Rattle.gabc_write.specs.SyllableAgain.{barred, printed_syllable}
use Rattle.gabc_write.proofs.plain.PlainCharacters.{is_plain, plain, append, parts_of, is_text, text_plain}
use Rattle.gabc_write.proofs.plain.PrintedViewIsPlain.{view_plain}
use Rattle.gabc_write.proofs.plain.KeptSnippetsArePlain.{kept_plain}

abbrev plain_snippets : List (List ℕ) → Bool
plain_snippets ss = list_all plain ss

barred_plain : (ss : List (List ℕ)) → plain_snippets ss ≡ true → plain (barred ss) ≡ true
barred_plain [] h = refl
barred_plain (s ∷ []) h = (and_parts (plain s) true h).0
barred_plain (s ∷ t ∷ ss) h =
    let g = and_parts (plain s) (plain_snippets (t ∷ ss)) h in
    append is_plain s (124 ∷ barred (t ∷ ss)) g.0 (barred_plain (t ∷ ss) g.1)

pub syllable_plain : (t : List ℕ) (ss : List (List ℕ)) → IsText t → plain_snippets ss ≡ true → IsText (printed_syllable (view_facts t) ss)
syllable_plain t ss h k =
    is_text (printed_syllable (view_facts t) ss)
    (append is_plain (print (view_facts t)) (40 ∷ (barred ss ++ 41 ∷ [])) (view_plain t (text_plain t h)) (append is_plain (barred ss) (41 ∷ []) (barred_plain ss k) refl))

-- ---- the snippets of notes

abbrev plain_read : ReadSnippet → Bool
plain_read s = plain (codes_of s.characters)

abbrev characters_of : ReadSnippet → List ℕ
characters_of s = codes_of s.characters

earlier_plain : (ss : List ReadSnippet) → plain (flat_map (λ s. characters_of s ++ codes "|") ss) ≡ true → list_all plain_read ss ≡ true
earlier_plain [] h = refl
earlier_plain (s ∷ ss) h =
    let g = parts_of is_plain (characters_of s ++ codes "|") (flat_map (λ s. characters_of s ++ codes "|") ss) h in
    and_from (plain_read s) (list_all plain_read ss) (parts_of is_plain (characters_of s) (codes "|") g.0).0 (earlier_plain ss g.1)

-- the characters of the notes are those of their snippets
read_plain : (earlier : List ReadSnippet) (last : ReadSnippet) → plain (in_brackets (λ s. codes_of s.characters) earlier last) ≡ true → list_all plain_read (earlier ++ last ∷ []) ≡ true
read_plain earlier last h = grind (arith, parts_of, append, earlier_plain)

module _ (lines : ℕ) (K text : List ℕ) (all : List ReadSnippet)
    (each : (before after : List ReadSnippet) (s : ReadSnippet) → all ≡ before ++ s ∷ after → IsHeld lines K text before s) where
  held_plain : (before rs : List ReadSnippet) → all ≡ before ++ rs → list_all plain_read rs ≡ true → plain_snippets (map (λ (s : ReadSnippet). s.kept) rs) ≡ true
  held_plain before [] e h = refl
  held_plain before (r ∷ rs) e h =
      let g = and_parts (plain_read r) (list_all plain_read rs) h in
      and_from (plain r.kept) (plain_snippets (map (λ (s : ReadSnippet). s.kept) rs)) (ap plain (each before rs r e).kept_is ∙ kept_plain r.snippet.line r.characters g.0)
      (held_plain (before ++ r ∷ []) rs (e ∙ sym (append_assoc before (r ∷ []) rs)) g.1)

pub snippets_plain : (lines : ℕ) (K text notes : List ℕ) (earlier : List ReadSnippet) (last : ReadSnippet) → notes ≡ in_brackets (λ s. codes_of s.characters) earlier last
    → ((before after : List ReadSnippet) (s : ReadSnippet) → earlier ++ last ∷ [] ≡ before ++ s ∷ after → IsHeld lines K text before s)
    → IsText notes → plain_snippets (map (λ (s : ReadSnippet). s.kept) (earlier ++ last ∷ [])) ≡ true
snippets_plain lines K text notes earlier last e each h =
    held_plain lines K text (earlier ++ last ∷ []) each [] (earlier ++ last ∷ []) refl (read_plain earlier last (ap plain (sym e) ∙ text_plain notes h))
