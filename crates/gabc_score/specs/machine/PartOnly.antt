-- The characters kept at a character, and the kept texts gathered.
use Rattle.std.specs.Prelude.{◌≡◌, ◌⊎◌, ℕ, List, [], ◌∷◌}
use Rattle.std.specs.List.{All}
use Rattle.gabc_places.specs.declared.place.Char.{Char}
use Rattle.gabc_text.specs.declared.text_event.TextEvent.TheVariants as text
use Rattle.gabc_notes.specs.declared.stage.NoteEvent.TheVariants as note
use Rattle.gabc_score.specs.declared.body_stage.BodyPart.{BodyPart}
use Rattle.gabc_body.specs.declared.events.BodyEvent.{BodyEvent}
use Rattle.gabc_body.specs.declared.events.BodyEvent.TheVariants as event
use Rattle.gabc_body.specs.Syllable.{UnplacedSyllable}
use Rattle.gabc_places.specs.TextOfAnInput.{IsText}
use Rattle.gabc_body.specs.witness.Gatherer.{Gathered}
use Rattle.gabc_score.specs.machine.PartKeeps.{KeptParts, PartKeeps}

-- the characters kept by these events
abbrev pub kept_codes : List BodyEvent → List ℕ
kept_codes [] = []
kept_codes (event.Text (text.Kept c) ∷ now) = c.c ∷ kept_codes now
kept_codes (event.Notes line (note.Kept c) ∷ now) = c.c ∷ kept_codes now
kept_codes (t ∷ now) = kept_codes now

-- the character kept of `c` is `c` itself, or a blank
abbrev pub IsKeptOf : ℕ → ℕ → Type 0
IsKeptOf c d = (d ≡ c) ⊎ (d ≡ 32)

-- of the character x a part that keeps parts of a kept text keeps nothing else
abbrev pub PartKeepsOnly : ℕ → ℕ → Char → BodyPart → List BodyEvent → Type 0
PartKeepsOnly lines macros x before now = (p : KeptParts) → PartKeeps lines macros before p → All (IsKeptOf x.c) (kept_codes now)

-- the kept text of a syllable is a text of an input
abbrev pub HasText : UnplacedSyllable → Type 0
HasText m = IsText m.kept

-- so are those of the current syllable, and of the whole ones not emitted
abbrev pub HoldsTexts : Gathered → Type 0
HoldsTexts g = IsText g.builder.kept × All HasText g.made
