-- The lines of a syllable in a dump, and its steps, are a function of what it says.
use Rattle.std.proofs.Common.{◌≡◌, Bool, ℕ, ◌+◌, ◌==◌, List, [], ◌∷◌, ◌++◌, Option, Some, None, codes, drop, get_or, map, refl, ap, if◌then◌else◌, arith}
use Rattle.std.specs.List.{All, flat_map}
use Rattle.std.specs.Option.{option_map}
use Rattle.std.specs.Fmt.{decimal}
use Rattle.std.proofs.lemmas.List.Elements.{All-head, All-tail}
use Rattle.gabc_places.specs.declared.place.Span.{Span}
use Rattle.gabc_neumes.specs.InForce.{InForce, ScoreStep, steps_of, passed}
use Rattle.gabc_body.specs.Holding.{HasWholeSnippets}
use Rattle.gabc_body.specs.Syllable.{UnplacedSyllable, PlacedSyllable, slice, text_at}
use Rattle.gabc_body.specs.declared.snippets.Snippet.{Snippet}
use Rattle.gabc_body.specs.declared.syllable.Position.{Position}
use Rattle.gabc_write.specs.DumpOfNotes.{last_text, lines_of_notes}
use Rattle.gabc_write.specs.DumpOfNabc.{lines_of_nabc}
use Rattle.gabc_write.specs.DumpOfSyllables.{position_word, line_of_text, line_of_translation, first_steps, steps_of_snippet, steps_of_snippets, steps_of_syllable, lines_of_snippet, lines_of_snippets, lines_of_syllable, lines_of_syllables, HaveOneDump}
use Rattle.gabc_write.specs.SetDown.{SayTheSame}
use Rattle.gabc_write.specs.SyllableMeaning.{SyllableMeaning, meaning_of, AreSame}
use Rattle.gabc_write.specs.SyllableRead.{as_it_stands}

-- ---- the lines and the steps, by what is said

abbrev steps_of_text : ℕ × List ℕ → List ScoreStep
steps_of_text s = if s.0 == 0 then steps_of s.1 else []

abbrev lines_of_text : InForce → ℕ × List ℕ → List ℕ
lines_of_text outset s = if s.0 == 0 then lines_of_notes outset s.1 else lines_of_nabc s.0 s.1

abbrev lines_of_texts : InForce → List (ℕ × List ℕ) → List ℕ
lines_of_texts outset [] = []
lines_of_texts outset (s ∷ ss) = lines_of_text outset s ++ lines_of_texts (passed outset (steps_of_text s)) ss

translation_said : Option (List ℕ) → List ℕ
translation_said None = []
translation_said (Some t) = codes "translation:" ++ last_text t

lines_said : ℕ → InForce → SyllableMeaning → List ℕ
lines_said number outset s =
    (codes "syllable " ++ (decimal number ++ (codes " " ++ (position_word s.position ++ ((if s.eu then codes " eu" else []) ++ ((if s.nlba then codes " nlba" else []) ++ codes "\n"))))))
    ++ (line_of_text s.text ++ (translation_said s.translation ++ lines_of_texts (passed outset (first_steps s.position)) s.snippets))

steps_said : SyllableMeaning → List ScoreStep
steps_said s = first_steps s.position ++ flat_map steps_of_text s.snippets

translation_is : (kept : List ℕ) (span : Option Span) → line_of_translation kept span ≡ translation_said (option_map (λ (x : Span). slice x kept) span)
unfolding translation_said
translation_is kept span = grind arith

-- ---- a syllable's are those of what it says

abbrev pub said_by : List ℕ → Snippet → ℕ × List ℕ
said_by kept s = (s.line, slice s.span kept)

abbrev pub IsWhole : List ℕ → Snippet → Type 0
IsWhole kept s = text_at s.span kept ≡ slice s.span kept

steps_are_one : (kept : List ℕ) (s : Snippet) → IsWhole kept s → steps_of_snippet kept s ≡ steps_of_text (said_by kept s)
steps_are_one kept s h = ap (λ (t : List ℕ). if s.line == 0 then steps_of t else []) h

lines_are_one : (outset : InForce) (kept : List ℕ) (s : Snippet) → IsWhole kept s → lines_of_snippet outset kept s ≡ lines_of_text outset (said_by kept s)
lines_are_one outset kept s h = ap (λ (t : List ℕ). if s.line == 0 then lines_of_notes outset t else lines_of_nabc s.line t) h

all_steps_are : (kept : List ℕ) (ss : List Snippet) → All (IsWhole kept) ss → steps_of_snippets kept ss ≡ flat_map steps_of_text (map (said_by kept) ss)
all_steps_are kept [] h = refl
all_steps_are kept (s ∷ ss) h = λ i. steps_are_one kept s (All-head (IsWhole kept) s ss h) i ++ all_steps_are kept ss (All-tail (IsWhole kept) s ss h) i

snippets_are : (outset : InForce) (kept : List ℕ) (ss : List Snippet) → All (IsWhole kept) ss → lines_of_snippets outset kept ss ≡ lines_of_texts outset (map (said_by kept) ss)
snippets_are outset kept [] h = refl
snippets_are outset kept (s ∷ ss) h =
    let whole = All-head (IsWhole kept) s ss h in
    λ i. lines_are_one outset kept s whole i ++ snippets_are (passed outset (steps_are_one kept s whole i)) kept ss (All-tail (IsWhole kept) s ss h) i

lines_are : (number : ℕ) (outset : InForce) (s : PlacedSyllable) → HasWholeSnippets s.made → lines_of_syllable number outset s ≡ lines_said number outset (meaning_of s)
unfolding lines_said
lines_are number outset s h = rw (translation_is s.made.kept s.made.text.translation, snippets_are (passed outset (first_steps s.position)) s.made.kept s.made.snippets h) refl

steps_are : (s : PlacedSyllable) → HasWholeSnippets s.made → steps_of_syllable s ≡ steps_said (meaning_of s)
unfolding steps_said
steps_are s h = ap (λ (t : List ScoreStep). first_steps s.position ++ t) (all_steps_are s.made.kept s.made.snippets h)

-- syllables that say the same have one dump
one_dump : (s t : PlacedSyllable) → HasWholeSnippets s.made → HasWholeSnippets t.made → meaning_of s ≡ meaning_of t → HaveOneDump s t
one_dump s t a b e = grind (arith, lines_are, lines_said, steps_are, steps_said)

pub held_dump : (first : Bool) (m n : UnplacedSyllable) (position : Position) → HasWholeSnippets m → HasWholeSnippets n → SayTheSame first (Some m) (Some n)
    → HaveOneDump (record { made = m; position = position }) (record { made = n; position = position })
held_dump first m n position a b says =
    let h = one_dump (record { made = as_it_stands first m; position = position }) (record { made = as_it_stands first n; position = position }) a b (says position) in
    record { lines = h.lines; steps = h.steps }

pub same_lines : (number : ℕ) (outset : InForce) (ss ts : List PlacedSyllable)
    → All (λ (s : PlacedSyllable). HasWholeSnippets s.made) ss → All (λ (s : PlacedSyllable). HasWholeSnippets s.made) ts
    → AreSame ss ts → lines_of_syllables number outset ss ≡ lines_of_syllables number outset ts
same_lines number outset [] [] a b e = refl
same_lines number outset [] (t ∷ ts) a b e = cc
same_lines number outset (s ∷ ss) [] a b e = cc
same_lines number outset (s ∷ ss) (t ∷ ts) a b e =
    let P = λ (s : PlacedSyllable). HasWholeSnippets s.made in
    let head : meaning_of s ≡ meaning_of t = ap (λ (u : List SyllableMeaning). get_or u 0 (meaning_of s)) e in
    let tail : AreSame ss ts = ap (λ (u : List SyllableMeaning). drop 1 u) e in
    let one : HaveOneDump s t = one_dump s t (All-head P s ss a) (All-head P t ts b) head in
    λ i. one.lines number outset i ++ same_lines (number + 1) (passed outset (one.steps i)) ss ts (All-tail P s ss a) (All-tail P t ts b) tail i
