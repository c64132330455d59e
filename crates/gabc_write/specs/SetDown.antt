-- A stage over a score that is restored from the reports of another one.
use Rattle.std.specs.Prelude.{◌≡◌, ◌==◌, ℕ, Bool, List, Option, Some, None, encode_utf8_all}
use Rattle.gabc_places.specs.declared.limits.Limits.{Limits}
use Rattle.gabc_headers.specs.declared.head_event.HeadEvent.{HeadEvent}
use Rattle.gabc_body.specs.declared.syllable.Position.{Position}
use Rattle.gabc_body.specs.declared.before.Before.{Before}
use Rattle.gabc_score.specs.Before.{preceding_of}
use Rattle.gabc_body.specs.Canonical.{canonical_in_place}
use Rattle.gabc_score.specs.HeldAgain.{MayBeHeld}
use Rattle.gabc_score.specs.HeldAside.{HoldTheSame, GiveTheSame}
use Rattle.gabc_score.specs.ScoreStage.{AreInLine}
use Rattle.gabc_score.specs.ScoreReports.{held_of}
use Rattle.gabc_body.specs.Syllable.{UnplacedSyllable}
use Rattle.gabc_score.specs.ReportedWithin.{written_after}
use Rattle.gabc_score.specs.witness.ScoreStage.{ScoreStageState, left_of}
use Rattle.gabc_write.specs.DumpOfSyllables.{HaveOneDump}
use Rattle.gabc_write.specs.SyllableMeaning.{meaning_of}
use Rattle.gabc_write.specs.SyllableRead.{as_it_stands}

-- two pending syllables say the same, whatever their position in their word. `first` says whether
-- no syllable comes before them.
abbrev pub SayTheSame : Bool → Option UnplacedSyllable → Option UnplacedSyllable → Type 0
SayTheSame first None None = Unit {0}
SayTheSame first (Some m) (Some n) =
    (position : Position) → meaning_of (record { made = as_it_stands first m; position = position }) ≡ meaning_of (record { made = as_it_stands first n; position = position })
SayTheSame first _ _ = ⊥

-- After what `before` reports, the canonical text of a syllable spells this text. Read by itself
-- the text is a syllable that may be pending there, and has the same canonical text.
pub record MayBeHeldByItsText (limits : Limits) (before : Before) (m : UnplacedSyllable) : Type 0 where
  pub text : List ℕ
  pub bytes : written_after (preceding_of before) m ≡ encode_utf8_all text
  pub again : UnplacedSyllable
  pub may : MayBeHeld limits before text again
  pub same_text : written_after (preceding_of before) again ≡ written_after (preceding_of before) m

-- Whatever follows, the one emits what the other emits. Only its pending syllable takes the place
-- of that of the other: it says the same, and has the same canonical text.
pub record GoesOnEquivalently (told made : ScoreStageState) : Type 0 where
  pub held : HoldTheSame (told.before.syllables == 0) (held_of told) (held_of made)
  pub says : SayTheSame (told.before.syllables == 0) (held_of told) (held_of made)
  pub gives : (xs : List HeadEvent) → GiveTheSame (held_of told) (held_of made) (left_of told xs) (left_of made xs)

-- The same holds of characters that come one after the other, from the place of the next one on.
pub record GoesOnEquivalentlyInLine (told made : ScoreStageState) : Type 0 where
  pub held : HoldTheSame (told.before.syllables == 0) (held_of told) (held_of made)
  pub says : SayTheSame (told.before.syllables == 0) (held_of told) (held_of made)
  pub gives : (xs : List HeadEvent) → AreInLine told.held.next xs → GiveTheSame (held_of told) (held_of made) (left_of told xs) (left_of made xs)

-- Two syllables are written alike if both have this position in their word: they have one canonical
-- text and one dump.
pub record IsWrittenAlike (m n : UnplacedSyllable) (position : Position) : Type 0 where
  pub canonical : canonical_in_place (record { made = m; position = position }) ≡ canonical_in_place (record { made = n; position = position })
  pub dump : HaveOneDump (record { made = m; position = position }) (record { made = n; position = position })

-- so are two pending ones, whatever their position in their word
abbrev pub AreWrittenAlike : Option UnplacedSyllable → Option UnplacedSyllable → Type 0
AreWrittenAlike None None = Unit {0}
AreWrittenAlike (Some m) (Some n) = (position : Position) → IsWrittenAlike m n position
AreWrittenAlike _ _ = ⊥
