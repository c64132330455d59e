-- The reports of a stage over a score in the body. Before the body and after the last event it
-- reports nothing.
use Rattle.std.specs.Prelude.{◌≡◌, ℕ, List, [], ◌∷◌, Bool, true, false, Option, Some, None}
use Rattle.gabc_places.specs.declared.place.Place.{Place}
use Rattle.gabc_text.specs.StageReports as text
use Rattle.gabc_text.specs.witness.StageReports as text_reports
use Rattle.gabc_notes.specs.StageReports as notes
use Rattle.gabc_nabc.specs.witness.Keeps as nabc
use Rattle.gabc_body.specs.declared.before.Before.{Before}
use Rattle.gabc_score.specs.declared.preceding.Preceding.{Preceding}
use Rattle.gabc_score.specs.declared.body_stage.BodyPart.{BodyPart}
use Rattle.gabc_score.specs.declared.body_stage.BodyPart.TheVariants as part
use Rattle.gabc_score.specs.declared.body_tells.Openers.{Openers}
use Rattle.gabc_score.specs.declared.score_machine.ScorePart.{ScorePart}
use Rattle.gabc_score.specs.declared.score_machine.ScorePart.TheVariants as score_part
use Rattle.gabc_body.specs.Syllable.{UnplacedSyllable}
use Rattle.gabc_score.specs.witness.BodyStage.{BodyStageState}
use Rattle.gabc_score.specs.witness.ScoreStage.{ScoreStageState}

-- a report, in the body alone
abbrev pub in_body : {A : Type 0} → ScorePart → A → Option A
in_body score_part.Body told = Some told
in_body part told = None

-- the context of the pending syllable, or, if none is pending, of the one that is read
abbrev pub before_with : BodyStageState → Preceding → Before
before_with body p = record {
  nabc_lines = body.nabc_lines;
  macros = body.macros;
  syllables = p.syllables;
  canonical = p.canonical;
  spans = p.spans;
  sounded = p.sounded;
}

abbrev pub before_of : ScoreStageState → Option Before
before_of s = in_body s.part (before_with s.body s.before)

-- the pending syllable, if there is one
abbrev pub held_in_body : ScorePart → List UnplacedSyllable → Option UnplacedSyllable
held_in_body score_part.Body (m ∷ ms) = Some m
held_in_body part made = None

abbrev pub held_of : ScoreStageState → Option UnplacedSyllable
held_of s = held_in_body s.part s.held.gathered.made

-- the kept text of the syllable that is read, in bytes
abbrev pub reading_in_body : ScorePart → List ℕ → List ℕ
reading_in_body score_part.Body kept = kept
reading_in_body part kept = []

abbrev pub reading_of : ScoreStageState → List ℕ
reading_of s = reading_in_body s.part s.held.gathered.builder.kept

-- the openers in a part of the body
abbrev pub openers_of : BodyPart → Openers
openers_of part.Comment = record { notes = None; inner = None }
openers_of (part.Text stage) = record { notes = None; inner = text.opener_of stage }
openers_of (part.Notes opened stage) = record { notes = Some opened; inner = notes.opener_of stage }
openers_of (part.Nabc line opened stage) = record { notes = Some opened; inner = None }

-- a comment is open in a part of the body
abbrev pub is_in_comment : BodyPart → Bool
is_in_comment part.Comment = true
is_in_comment (part.Text stage) = text.is_in_comment stage
is_in_comment (part.Notes opened stage) = notes.comment_of stage
is_in_comment (part.Nabc line opened stage) = nabc.comment_of stage

-- the comment after the `%%` is open, in front of the first text
abbrev pub is_in_front : BodyPart → Bool
is_in_front part.Comment = true
is_in_front part = false

-- It is in front of the first text: no syllable is whole, and nothing is read of one.
pub record IsInFront (s : ScoreStageState) : Type 0 where
  pub front : is_in_front s.body.part ≡ true
  pub none_before : s.before.syllables ≡ 0
  pub none_held : held_of s ≡ None
  pub nothing_read : reading_of s ≡ []

-- the place of the next character in the body
abbrev pub next_of : ScoreStageState → Option Place
next_of s = in_body s.part s.held.next

-- a text has counted this place for the next character
abbrev pub IsAt : Place → BodyPart → Type 0
IsAt place (part.Text stage) = text_reports.next_of stage ≡ place
IsAt place part = Unit {0}

-- ---- the next character is elsewhere

abbrev pub moved_part : Place → BodyPart → BodyPart
moved_part place (part.Text stage) = part.Text (text_reports.moved_to place stage)
moved_part place part = part

-- The next character is at this place. The openers keep their own places.
abbrev pub moved_to : Place → ScoreStageState → ScoreStageState
moved_to place s = record s { held = record s.held { next = place }; body = record s.body { part = moved_part place s.body.part } }
