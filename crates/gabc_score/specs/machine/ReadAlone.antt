-- A text that is read alone: whether it is one syllable, with which no limit is passed.
use Rattle.std.specs.Prelude.{◌≡◌, ℕ, ◌&&◌, not, List, [], ◌∷◌, Bool, true, false, None, is_some, length, take}
use Rattle.std.specs.List.{list_any}
use Rattle.std.specs.Str.{chars}
use Rattle.gabc_places.specs.Place.{placed_characters_from}
use Rattle.gabc_places.specs.declared.place.Place.{Place}
use Rattle.gabc_places.specs.Code.{severity_of}
use Rattle.gabc_places.specs.declared.code.Finding.{Finding}
use Rattle.gabc_places.specs.declared.limits.Limits.{Limits}
use Rattle.gabc_places.specs.declared.severity.Severity.{Severity}
use Rattle.gabc_places.specs.declared.severity.Severity.TheVariants.{Warning, Error, Fatal}
use Rattle.gabc_body.specs.declared.events.BodyEvent.{BodyEvent}
use Rattle.gabc_score.specs.declared.score_machine.ScoreMachine.{ScoreMachine}
use Rattle.gabc_score.specs.declared.score_machine.ScorePart.TheVariants as score_part
use Rattle.gabc_places.specs.TextOfAnInput.{IsText}
use Rattle.gabc_body.specs.Body.{is_none}
use Rattle.gabc_score.specs.HeldAgain.{MayBeHeld}
use Rattle.gabc_body.specs.ScoreEvents.{findings_now, first_place}
use Rattle.gabc_score.specs.Resumed.{BeginsText, HoldsAgain}
use Rattle.gabc_score.specs.ScoreReports.{before_of, before_with, held_of}
use Rattle.gabc_body.specs.Syllable.{UnplacedSyllable}
use Rattle.gabc_score.specs.ReportedWithin.{ReportsText}
use Rattle.gabc_body.specs.witness.BodyBuilder.{with_all, code_in}
use Rattle.gabc_body.specs.witness.Gatherer.{Gathered}
use Rattle.gabc_score.specs.machine.ScoreMachine.{IsScore, shown}
use Rattle.gabc_score.specs.witness.BodyStage.{running_events_left}

-- ---- characters that are fine

-- a severity above a warning
abbrev pub is_grave : Severity → Bool
is_grave Warning = false
is_grave Error = true
is_grave Fatal = true

abbrev pub is_error : Finding → Bool
is_error f = is_grave (severity_of f.code)

-- with these events no limit is passed and no error is found
abbrev pub is_fine : Limits → Gathered → List BodyEvent → Bool
is_fine limits g now = not (is_some (code_in limits (with_all g now))) && not (list_any is_error (findings_now now))

-- with the last of these lists, one for each character, a syllable becomes whole, and with none
-- before; all of them are fine
abbrev pub is_alone : Limits → Gathered → List (List BodyEvent) → Bool
is_alone limits g [] = not (is_none g.made)
is_alone limits g (now ∷ lists) = is_none g.made && (is_fine limits g now && is_alone limits (with_all g now) lists)

-- the lists that the body of a machine emits for the characters of a text, the first of which is at
-- this place
abbrev pub lists_from : ScoreMachine → Place → List ℕ → List (List BodyEvent)
lists_from m at text = take (length text) (running_events_left m.body (placed_characters_from at text))

abbrev pub lists_of : ScoreMachine → List ℕ → List (List BodyEvent)
lists_of m text = lists_from m first_place text

-- ---- a text that is read alone

-- a machine at the beginning of a text, without a pending syllable
pub record BeginsAlone (m : ScoreMachine) : Type 0 where
  pub rests : IsScore m
  pub begins : BeginsText (shown m)
  pub none : held_of (shown m) ≡ None

-- A text was read so, and its syllable is pending if `result` says that it is one. Else the reading
-- is over.
pub record HoldsAlone (old : ScoreMachine) (text : List ℕ) (result : Bool) (new : ScoreMachine) : Type 0 where
  pub held : result ≡ true → HoldsAgain (chars text) (shown old) (shown new)
  pub told : result ≡ true → IsText text → ReportsText (shown old) → ReportsText (shown new)
  pub refused : result ≡ false → (m : UnplacedSyllable) → MayBeHeld old.limits (before_with old.body old.pair.contexts.before) (chars text) m → ⊥
  pub over : result ≡ false → before_of (shown new) ≡ None
  pub ends : result ≡ false → new.part ≡ score_part.Over
