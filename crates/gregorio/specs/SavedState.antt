-- A saved state: fields that meet their conditions, and texts that are read as the fields say. It
-- is judged by the limits that it reports itself.
use Rattle.std.specs.Prelude.{◌≡◌, ◌≢◌, ◌≤◌, ℕ, ◌-◌, List, [], length}
use Rattle.std.specs.Str.{chars}
use Rattle.gabc_places.specs.declared.limits.Limits.{Limits}
use Rattle.gabc_score.specs.Before.{preceding_of}
use Rattle.gabc_score.specs.HeldAgain.{MayBeHeld}
use Rattle.gabc_score.specs.KeptAgain.{IsKeptAgain}
use Rattle.gabc_body.specs.Syllable.{UnplacedSyllable}
use Rattle.gabc_score.specs.ReportedWithin.{written_after}
use Rattle.gabc_body.specs.declared.before.Before.{Before}
use Rattle.gregorio_jobs.specs.declared.job.Job.{Job}
use Rattle.gregorio_state.specs.Conditions.{AreStateFields}
use Rattle.gregorio_state.specs.Fields.{PhaseFields, ScoreFields, StateFields, InHeaders, InScore}
use Rattle.gregorio_state.specs.StateBytes.{state_bytes}
use Rattle.gregorio.specs.Saved.{GivesHeaders}

-- These are the limits that it reports.
pub record ReportsLimits (s : StateFields) (limits : Limits) : Type 0 where
  pub header : s.header_limit ≡ limits.header
  pub syllable : s.syllable_limit ≡ limits.syllable
  pub input : s.input_limit ≡ limits.input

-- ---- the pending text

-- The context of the pending syllable: the state counts that syllable, and its text is the last of
-- the canonical file.
abbrev pub before_held : ScoreFields → Before
before_held f = record {
  nabc_lines = f.nabc_lines;
  macros = f.macros;
  syllables = f.syllables - 1;
  canonical = f.canonical - length f.held;
  spans = record { eu = f.in_eu; nlba = f.in_nlba };
  sounded = f.sounded;
}

-- Read by itself in its context, the pending text is one syllable, whole with its last character:
-- no error is found in it, no limit is passed, and it is the canonical text of that syllable.
pub record IsHeldRead (limits : Limits) (f : ScoreFields) : Type 0 where
  pub m : UnplacedSyllable
  pub may : MayBeHeld limits (before_held f) (chars f.held) m
  pub is : written_after (preceding_of (before_held f)) m ≡ f.held

-- ---- the kept text

-- Read by itself all of the kept text is kept again, and the brackets and the comment of the fields
-- are open after it. It is no longer than the limit of a syllable.
pub record IsKeptRead (limits : Limits) (f : ScoreFields) : Type 0 where
  pub again : IsKeptAgain f.nabc_lines f.macros (chars f.kept) (record { notes = f.notes_opener; inner = f.inner_opener }) f.in_comment
  pub short : length f.kept ≤ limits.syllable

-- ---- a state

pub record IsScoreRead (limits : Limits) (f : ScoreFields) : Type 0 where
  pub held : f.held ≢ [] → IsHeldRead limits f
  pub kept : IsKeptRead limits f

-- The headers go on after their text, with this place and these errors; or the texts of the score
-- are read as the fields say.
abbrev pub IsPhaseRead : Limits → StateFields → PhaseFields → Type 0
IsPhaseRead limits s (InHeaders headers) = GivesHeaders limits (chars headers) s.place s.has_error
IsPhaseRead limits s (InScore f) = IsScoreRead limits f

-- the fields of a saved state
pub record AreOfState (s : StateFields) : Type 0 where
  pub fields : AreStateFields s
  pub limits : Limits
  pub limits_are : ReportsLimits s limits
  pub read : IsPhaseRead limits s s.phase

-- It is one of this job under these limits. A state has nothing else of a job.
pub record IsOfJob (job : Job) (limits : Limits) (s : StateFields) : Type 0 where
  pub limits_are : ReportsLimits s limits
  pub format : s.format ≡ job.format
  pub all_warnings : s.all_warnings ≡ job.all_warnings

-- These bytes are a saved state.
pub record IsState (bytes : List ℕ) : Type 0 where
  pub s : StateFields
  pub is : bytes ≡ state_bytes s
  pub fields : AreOfState s

-- These bytes are one of another job, or under other limits.
pub record IsOfAnother (job : Job) (limits : Limits) (bytes : List ℕ) : Type 0 where
  pub s : StateFields
  pub is : bytes ≡ state_bytes s
  pub fields : AreOfState s
  pub other : IsOfJob job limits s → ⊥
