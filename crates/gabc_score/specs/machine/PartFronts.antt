-- How a part of a body leaves the comment in front of the first text.
use Rattle.std.specs.Prelude.{◌≡◌, List, [], true}
use Rattle.gabc_score.specs.declared.body_stage.BodyPart.{BodyPart}
use Rattle.gabc_body.specs.declared.events.BodyEvent.{BodyEvent}
use Rattle.gabc_score.specs.ScoreReports.{is_in_front}

-- the comment in front is open only if it was before, and then nothing is emitted
abbrev pub PartLeavesFront : BodyPart → BodyPart → List BodyEvent → Type 0
PartLeavesFront before after now = is_in_front after ≡ true → (is_in_front before ≡ true) × (now ≡ [])
