-- The comment in front of the first text can be read again as one in a text of which nothing is kept.
use Rattle.std.proofs.Common.{◌≡◌, [], true, length, is_some, refl, ap, arith}
use Rattle.gabc_text.specs.witness.EventsLeft as fresh_events
use Rattle.gabc_text.specs.TextStage.{fresh_stage}
use Rattle.gabc_text.specs.declared.stage.TextStage.{TextStage}
use Rattle.gabc_text.specs.declared.token_state.TokenState.TheVariants.{Comment}
use Rattle.gabc_text.specs.witness.Keeps.{Keeps}
use Rattle.gabc_score.specs.declared.body_stage.BodyPart.TheVariants as part
use Rattle.gabc_score.specs.ReadAgain.{CanBeReadInText}
use Rattle.gabc_body.specs.ScoreEvents.{first_place}
use Rattle.gabc_score.specs.ScoreReports.{IsInFront, before_of}
use Rattle.gabc_score.specs.machine.PartKeeps.{in_text}
use Rattle.gabc_score.specs.witness.ScoreStage.{ScoreStageState}
use Rattle.gabc_score.proofs.resuming.BeginsAnywhere.{nothing_in_body}
use Rattle.gabc_score.proofs.resuming.MachinesReadAgain.{in_body_by}

-- a text whose first character was a `%`
abbrev commented : TextStage
commented = record (fresh_stage first_place) { state = Comment }

comment_keeps : Keeps commented []
comment_keeps = grind arith

pub front_in_text : (s : ScoreStageState) → is_some (before_of s) ≡ true → IsInFront s → CanBeReadInText s
unfolding fresh_events.events_left
front_in_text s runs front =
    let body = in_body_by s.part _ runs in
    let nothing = nothing_in_body s.part s.held.gathered.builder.kept body front.nothing_read in
    let few = ap length nothing in
    record {
      told = record s { body = record s.body { part = part.Text commented } };
      again = record { body = body; told = record { parts = in_text []; keeps = comment_keeps; is = nothing; short = omega (arith, few) } };
      limits = refl;
      lines = refl;
      macros = refl;
      before = refl;
      tells = record { front = refl; reading = front.nothing_read; openers_are = refl; comment_is = refl };
    }
