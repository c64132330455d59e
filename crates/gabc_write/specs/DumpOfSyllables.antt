-- The lines of syllables in a dump, and a whole dump.
use Rattle.std.specs.Prelude.{◌≡◌, ℕ, ◌+◌, ◌==◌, List, [], ◌∷◌, ◌++◌, Bool, Option, Some, None, length, codes, if◌then◌else◌}
use Rattle.std.specs.List.{flat_map}
use Rattle.std.specs.Fmt.{decimal}
use Rattle.gabc_places.specs.declared.place.Span.{Span}
use Rattle.gabc_neumes.specs.InForce.{InForce, ScoreStep, WordStart, nothing_in_force, steps_of, passed}
use Rattle.gabc_text.specs.Canonical.{canonical_text}
use Rattle.gabc_body.specs.Canonical.{starts_word}
use Rattle.gabc_body.specs.Syllable.{PlacedSyllable, slice, text_at}
use Rattle.gabc_body.specs.declared.snippets.Snippet.{Snippet}
use Rattle.gabc_body.specs.declared.syllable.Position.{Position}
use Rattle.gabc_body.specs.declared.syllable.Position.TheVariants.{One, Beginning, Middle, End}
use Rattle.gabc_write.specs.DumpLines.{dump_heads, end_line}
use Rattle.gabc_write.specs.DumpOfNotes.{last_text, lines_of_notes}
use Rattle.gabc_write.specs.DumpOfNabc.{lines_of_nabc}

abbrev pub position_word : Position → List ℕ
position_word One = codes "one"
position_word Beginning = codes "beginning"
position_word Middle = codes "middle"
position_word End = codes "end"

-- `syllable NUMBER POSITION`, then ` eu` and ` nlba` if these spans are open
abbrev pub first_line_by : ℕ → Position → Bool → Bool → List ℕ
first_line_by number position eu nlba =
    codes "syllable " ++ (decimal number ++ (codes " " ++ (position_word position
    ++ ((if eu then codes " eu" else []) ++ ((if nlba then codes " nlba" else []) ++ codes "\n")))))

abbrev pub first_line : ℕ → PlacedSyllable → List ℕ
first_line number s = first_line_by number s.position s.made.eu s.made.nlba

-- `text:T`, if there is a text
abbrev pub line_of_text : List ℕ → List ℕ
line_of_text [] = []
line_of_text (c ∷ t) = codes "text:" ++ last_text (c ∷ t)

-- `translation:T`, if there is one
abbrev pub line_of_translation : List ℕ → Option Span → List ℕ
line_of_translation kept None = []
line_of_translation kept (Some span) = codes "translation:" ++ last_text (slice span kept)

-- ---- the steps of a snippet, of a syllable's snippets, and of a syllable, in order

abbrev pub steps_on : ℕ → List ℕ → List ScoreStep
steps_on line text = if line == 0 then steps_of text else []

abbrev pub steps_of_snippet : List ℕ → Snippet → List ScoreStep
steps_of_snippet kept s = steps_on s.line (text_at s.span kept)

abbrev pub steps_of_snippets : List ℕ → List Snippet → List ScoreStep
steps_of_snippets kept snippets = flat_map (steps_of_snippet kept) snippets

abbrev pub first_steps : Position → List ScoreStep
first_steps position = if starts_word position then WordStart ∷ [] else []

abbrev pub steps_of_syllable : PlacedSyllable → List ScoreStep
steps_of_syllable s = first_steps s.position ++ steps_of_snippets s.made.kept s.made.snippets

-- ---- the lines; `outset` has the clef and the alterations in force before them

-- the lines of a snippet: line 0 is that of the notes
abbrev pub lines_on : InForce → ℕ → List ℕ → List ℕ
lines_on outset line text = if line == 0 then lines_of_notes outset text else lines_of_nabc line text

abbrev pub lines_of_snippet : InForce → List ℕ → Snippet → List ℕ
lines_of_snippet outset kept s = lines_on outset s.line (text_at s.span kept)

abbrev pub lines_of_snippets : InForce → List ℕ → List Snippet → List ℕ
lines_of_snippets outset kept [] = []
lines_of_snippets outset kept (s ∷ snippets) =
    lines_of_snippet outset kept s ++ lines_of_snippets (passed outset (steps_of_snippet kept s)) kept snippets

-- the lines of the syllable with that number
abbrev pub lines_of_syllable : ℕ → InForce → PlacedSyllable → List ℕ
lines_of_syllable number outset s =
    first_line number s
    ++ (line_of_text (canonical_text s.made.text s.made.kept)
    ++ (line_of_translation s.made.kept s.made.text.translation
    ++ lines_of_snippets (passed outset (first_steps s.position)) s.made.kept s.made.snippets))

-- two syllables have the same lines under each number, and the same is in force after them, if it
-- is before them
pub record HaveOneDump (s t : PlacedSyllable) : Type 0 where
  pub lines : (number : ℕ) (outset : InForce) → lines_of_syllable number outset s ≡ lines_of_syllable number outset t
  pub steps : steps_of_syllable s ≡ steps_of_syllable t

-- the lines of syllables, which are numbered from that number on
abbrev pub lines_of_syllables : ℕ → InForce → List PlacedSyllable → List ℕ
lines_of_syllables number outset [] = []
lines_of_syllables number outset (s ∷ syllables) =
    lines_of_syllable number outset s ++ lines_of_syllables (number + 1) (passed outset (steps_of_syllable s)) syllables

-- The dump of this book and these syllables. If the score was stopped, it has no last line.
abbrev pub dump_text : Bool → List (List ℕ × List ℕ) → List PlacedSyllable → List ℕ
dump_text whole book syllables =
    dump_heads book ++ (lines_of_syllables 1 nothing_in_force syllables ++ (if whole then end_line (length syllables) else []))
