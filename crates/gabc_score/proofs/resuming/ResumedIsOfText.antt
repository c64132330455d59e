-- What a stage reports that goes on after syllables is that of a text, if what it went on with is.
use Rattle.std.proofs.Common.{◌≡◌, arith}
use Rattle.std.proofs.lemmas.List.Elements.{All-nil}
use Rattle.gabc_text.specs.witness.EventsLeft as fresh_events
use Rattle.gabc_places.specs.declared.limits.Limits.{Limits}
use Rattle.gabc_places.specs.declared.place.Place.{Place}
use Rattle.gabc_body.specs.declared.before.Before.{Before}
use Rattle.gabc_score.specs.declared.score_machine.ScoreMachine.{ScoreMachine}
use Rattle.gabc_score.specs.declared.score_machine.ScorePart.TheVariants as score_part
use Rattle.gabc_score.specs.Resumed.{IsAfterSyllables}
use Rattle.gabc_body.specs.ScoreEvents.{first_place}
use Rattle.gabc_score.specs.declared.body_tells.Openers.{Openers}
use Rattle.gabc_score.specs.ScoreReports.{openers_of, reading_of}
use Rattle.gabc_places.specs.TextOfAnInput.{IsText}
use Rattle.gabc_score.specs.ReportedWithin.{AreCountsWithin, AreOpenersBefore, IsPlace, ReportsText}
use Rattle.gabc_score.specs.machine.ReadsSilently.{IsRunAlike, IsSameBut, placed_so}
use Rattle.gabc_score.specs.machine.ScoreMachine.{shown}
use Rattle.gabc_score.specs.witness.ScoreStage.{ScoreStageState}
use Rattle.gabc_score.proofs.resuming.BeginsAnywhere.{none_in_body, nothing_in_body}
use Rattle.gabc_score.proofs.resuming.ScoresAgree.{before_is_reported}
use Rattle.gabc_body.proofs.units.CanonicalTextIsText.{nothing_plain}

-- a text that begins at the first place
pub first_is_place : IsPlace first_place
first_is_place = record { line = omega arith; column = omega arith; in_64_bits = omega arith }

-- a kept text that was read again is a text
pub reported_again : (old m : ScoreMachine) (o : Openers) (next : Place) → IsSameBut old m → IsRunAlike old m → m.part ≡ score_part.Body → (let new = shown (placed_so o next m) in IsPlace next → AreOpenersBefore next (openers_of new.body.part)
    → IsText (reading_of new) → ReportsText (shown old) → ReportsText new)
reported_again old m o next same run now is openers text told body =
    let t = told same.body in
    record { counts = rw (run.limits, run.lines, run.macros, same.contexts) t.counts; next = is; openers = openers; reading = rw now at text; held = rw same.made t.held }

-- so it is if nothing was read yet
pub reported_after : (limits : Limits) (before : Before) (s : ScoreStageState) → IsAfterSyllables limits before s → AreCountsWithin limits before.nabc_lines before.macros before.canonical → ReportsText s
unfolding fresh_events.events_left
reported_after limits before s stands counts body = grind (arith, before_is_reported, first_is_place, nothing_in_body, nothing_plain, none_in_body, All-nil)
