-- The headers that an engine has read while it runs.
use Rattle.std.specs.Prelude.{◌≡◌, ℕ, List, Bool, true, is_none, Result}
use Rattle.std.specs.List.{All}
use Rattle.gabc_places.specs.DecoderMachine.{DecoderState}
use Rattle.gabc_places.specs.DecoderReports.{MovesOn}
use Rattle.gabc_places.specs.TextOfAnInput.{IsTextCharacter}
use Rattle.gabc_places.specs.declared.code.Fault.{Fault}
use Rattle.gabc_places.specs.declared.limits.Limits.{Limits}
use Rattle.gabc_places.specs.declared.place.Char.{Char}
use Rattle.gabc_places.specs.declared.place.Place.{Place}
use Rattle.gabc_headers.specs.witness.HeadEvents.{HeaderStageState, HeadProgress, reading, after_headers, over}
use Rattle.gregorio.specs.Saved.{GivesHeaders}
use Rattle.gregorio.specs.machine.InStep.{RunsInStep}
use Rattle.gregorio.specs.machine.ScoreWriter.{ScoreWriterState}
use Rattle.gregorio.specs.witness.Engine.{Written}

-- a text of an input, after which the place is `place`, and `error` says whether an error is found
-- in it
pub record IsReadAs (limits : Limits) (t : List ℕ) (place : Place) (error : Bool) : Type 0 where
  pub text : All IsTextCharacter t
  pub gives : GivesHeaders limits t place error

abbrev pub IsReadSoFar : Limits → HeadProgress → Place → Bool → Type 0
IsReadSoFar limits (reading t) place error = IsReadAs limits t place error
IsReadSoFar limits (after_headers book) place error = Unit {0}
IsReadSoFar limits over place error = Unit {0}

abbrev pub ReadsHeaders : DecoderState → HeaderStageState → Written → Type 0
ReadsHeaders d h w = is_none w.ended ≡ true → IsReadSoFar h.limits h.progress d.place w.errors

-- At these items the reading of headers continues, if the decoder continues with them.
abbrev pub ReadsOn : HeaderStageState → ScoreWriterState → List (Result Char Fault) → HeaderStageState → ScoreWriterState → Type 0
ReadsOn h old items now new =
    (d e : DecoderState) → MovesOn d items e → (is_none old.writer.written.ended ≡ true → RunsInStep d h old.score old.writer.written) → ReadsHeaders d h old.writer.written → ReadsHeaders e now new.writer.written
