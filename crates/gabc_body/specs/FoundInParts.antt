-- The findings in the parts of a body, each read from where it begins.
use Rattle.std.specs.Prelude.{ℕ, ◌==◌, nat_lt, List, [], ◌∷◌, ◌++◌, if◌then◌else◌}
use Rattle.std.specs.List.{All}
use Rattle.gabc_places.specs.declared.place.Place.{Place}
use Rattle.gabc_places.specs.declared.place.Char.{Char}
use Rattle.gabc_places.specs.StageLaw.{concat_of}
use Rattle.gabc_text.specs.View.{findings}
use Rattle.gabc_notes.specs.declared.stage.NoteEvent.{NoteEvent}
use Rattle.gabc_notes.specs.Events.{note_events}
use Rattle.gabc_notes.specs.ReadAgain.{IsWarning}
use Rattle.gabc_notes.specs.SnippetRead.{findings_of}
use Rattle.gabc_nabc.specs.Events.{nabc_events}
use Rattle.gabc_body.specs.Events.{next_line}
use Rattle.gabc_body.specs.SyllablesOfUnits.{with_ends, snippets_in, characters_from, score_unit}
use Rattle.gabc_body.specs.Units.{EndedPart, BodyUnit, LastUnit}

-- the events of a snippet on this line that begins with these characters
abbrev pub snippet_events : ℕ → ℕ → ℕ → List Char → List (List NoteEvent)
snippet_events lines macros line xs = if line == 0 then note_events (nat_lt 0 lines) macros xs else nabc_events xs

-- the findings in a text are warnings, wherever it begins
abbrev pub TextWarns : List ℕ → Type 0
TextWarns t = (at : Place) → All IsWarning (findings at t)

module _ (lines macros : ℕ) where
  -- so are those in snippets, from this line on, with the characters `after` after them
  abbrev pub SnippetsWarn : ℕ → List EndedPart → List Char → Type 0
  SnippetsWarn line [] after = Unit {0}
  SnippetsWarn line (e ∷ es) after =
      All IsWarning (findings_of (concat_of (snippet_events lines macros line (e.characters ++ e.end ∷ (with_ends es ++ after))))) × SnippetsWarn (next_line lines line) es after

  -- so are those in the texts and snippets of units
  abbrev pub UnitsWarn : List BodyUnit → LastUnit → Type 0
  UnitsWarn [] last = Unit {0}
  UnitsWarn (u ∷ units) last =
      (TextWarns (score_unit u (characters_from units last)).text × SnippetsWarn 0 (snippets_in u) (characters_from units last)) × UnitsWarn units last
