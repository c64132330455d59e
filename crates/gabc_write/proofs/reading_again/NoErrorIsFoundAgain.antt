-- What is found in a canonical file are warnings.
use Rattle.std.proofs.Common.{◌≡◌, ℕ, List, [], ◌∷◌, false, Some, Ok, refl, sym, subst, arith}
use Rattle.std.specs.List.{All}
use Rattle.std.proofs.lemmas.List.Elements.{All-nil, All-cons}
use Rattle.gabc_places.specs.declared.limits.Limits.{Limits}
use Rattle.gabc_places.specs.declared.place.Place.{Place}
use Rattle.gabc_places.specs.declared.place.Char.{Char}
use Rattle.gabc_headers.specs.declared.heads.Heads.{Heads}
use Rattle.gabc_headers.specs.Book.{nabc_lines_of, macros_of}
use Rattle.gabc_headers.specs.Heads.{heads_of}
use Rattle.gabc_headers.specs.HeadsAgain.{heads_again}
use Rattle.gabc_text.specs.Events.{codes_of}
use Rattle.gabc_text.specs.View.{findings}
use Rattle.gabc_text.specs.ViewFacts.{has_error}
use Rattle.gabc_notes.specs.ReadAgain.{IsWarning}
use Rattle.gabc_body.specs.declared.ending.InputEnding.{InputEnding}
use Rattle.gabc_body.specs.declared.ending.InputEnding.TheVariants.{Whole}
use Rattle.gabc_body.specs.Events.{next_line}
use Rattle.gabc_body.specs.FoundInParts.{TextWarns, SnippetsWarn, UnitsWarn}
use Rattle.gabc_body.specs.witness.EmittedScore.{emitted_score}
use Rattle.gabc_body.specs.SyllablesOfUnits.{IsBodyCut}
use Rattle.gabc_body.specs.Units.{EndedPart, BodyUnit, LastUnit, JustText, BodyCutting}
use Rattle.gabc_write.specs.SyllableAgain.{AreSnippetsAgain}
use Rattle.gabc_write.specs.BodyAgain.{SyllableFacts, SayAgain}
use Rattle.gabc_write.specs.FileAgain.{printed_file, IsFileAgain}

-- that there is no header `name` is a warning
heads_warn : (book : List (List ℕ × List ℕ)) → All IsWarning (heads_again book).findings
heads_warn book = grind (arith, All-nil, All-cons)

-- nothing is found in an LF
lf_warns : TextWarns (10 ∷ [])
lf_warns at = All-nil IsWarning

module _ (text_warns : (at : Place) (t : List ℕ) → has_error (findings at t) ≡ false → All IsWarning (findings at t)) (lines macros : ℕ) where
  pub snippets_warn : (line : ℕ) (es : List EndedPart) (after : List Char) (ss : List (List ℕ)) → AreSnippetsAgain lines macros line es after ss → SnippetsWarn lines macros line es after
  snippets_warn line [] after ss h = tt
  snippets_warn line (e ∷ es) after [] h = absurd h
  snippets_warn line (e ∷ es) after (s ∷ ss) h = (h.0.warnings, snippets_warn (next_line lines line) es after ss h.1)

  units_warn : (units : List BodyUnit) (last : LastUnit) (facts : List SyllableFacts) → SayAgain lines macros units last facts → UnitsWarn lines macros units last
  units_warn [] last facts h = tt
  units_warn (u ∷ units) last [] h = absurd h
  units_warn (u ∷ units) last (f ∷ facts) h = grind (arith, units_warn units last facts h.1, snippets_warn)

pub file_warns : (text_warns : (at : Place) (t : List ℕ) → has_error (findings at t) ≡ false → All IsWarning (findings at t))
    → (score_warns : (limits : Limits) (ending : InputEnding) (t : List ℕ) (heads : Heads) (cut : BodyCutting) (units : List BodyUnit) (last : List Char)
    → heads_of limits t ≡ Ok heads → IsBodyCut heads.book t cut → cut.units ≡ Some (record { closed = units; last = JustText last }) → All IsWarning heads.findings
    → UnitsWarn (nabc_lines_of heads.book) (macros_of heads.book) units (JustText last) → TextWarns (codes_of last) → All IsWarning (emitted_score limits ending t).findings)
    → (limits : Limits) (book : List (List ℕ × List ℕ)) (facts : List SyllableFacts) → IsFileAgain limits book facts → All IsWarning (emitted_score limits Whole (printed_file book facts)).findings
file_warns text_warns score_warns limits book facts file =
    score_warns limits Whole (printed_file book facts) (heads_again book) (record { comment = []; units = Some (record { closed = file.units; last = JustText file.last }) }) file.units file.last file.heads file.cut refl (heads_warn book)
    (units_warn text_warns (nabc_lines_of book) (macros_of book) file.units (JustText file.last) facts file.again) (subst TextWarns (sym file.last_is) lf_warns)
