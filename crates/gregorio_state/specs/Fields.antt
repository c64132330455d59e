-- What a saved state says of a run. Its texts are their bytes in UTF-8.
use Rattle.std.specs.Prelude.{ℕ, List, Bool, Option}
use Rattle.gabc_places.specs.declared.place.Place.{Place}
use Rattle.gabc_neumes.specs.InForce.{InForce}
use Rattle.gregorio_jobs.specs.declared.job.Format.{Format}
use Rattle.gregorio_state.specs.declared.fields.Phase.{Phase}
use Rattle.gregorio_state.specs.declared.fields.Phase.TheVariants as code
use Rattle.gregorio_state.specs.declared.fields.ScoreFields as code_score
use Rattle.gregorio_state.specs.declared.fields.StateFields as code_state

-- where a run that reads the score stands in it
pub record ScoreFields : Type 0 where
  pub nabc_lines : ℕ
  pub macros : ℕ
  pub syllables : ℕ
  pub canonical : ℕ
  -- before the last whole syllable
  pub in_eu : Bool
  pub in_nlba : Bool
  pub sounded : Bool
  pub in_force : InForce
  -- the last whole syllable
  pub held : List ℕ
  -- where the run stands in the syllable that it reads
  pub in_comment : Bool
  pub notes_opener : Option Place
  pub inner_opener : Option Place
  pub kept : List ℕ

-- it reads the headers, and this is their text so far; or the score
pub data PhaseFields : Type 0 where
  InHeaders : List ℕ → PhaseFields
  InScore : ScoreFields → PhaseFields

pub record StateFields : Type 0 where
  pub format : Format
  pub all_warnings : Bool
  -- how many bytes the headers, a syllable and the input may have
  pub header_limit : ℕ
  pub syllable_limit : ℕ
  pub input_limit : ℕ
  pub taken : ℕ
  pub place : Place
  pub pending : List ℕ
  pub after_cr : Bool
  pub has_error : Bool
  pub phase : PhaseFields

-- ---- fields with another pending text

abbrev pub with_held : List ℕ → ScoreFields → ScoreFields
with_held text f = record f { held = text }

abbrev pub phase_holding : List ℕ → PhaseFields → PhaseFields
phase_holding text (InHeaders headers) = InHeaders headers
phase_holding text (InScore f) = InScore (with_held text f)

-- the headers have none
abbrev pub holding : List ℕ → StateFields → StateFields
holding text s = record s { phase = phase_holding text s.phase }

-- ---- the same of the fields in code, wherever their texts lie in memory

abbrev pub score_of : code_score.ScoreFields → ScoreFields
score_of s = record {
  nabc_lines = s.nabc_lines;
  macros = s.macros;
  syllables = s.syllables;
  canonical = s.canonical;
  in_eu = s.in_eu;
  in_nlba = s.in_nlba;
  sounded = s.sounded;
  in_force = record { clef = s.clef; alters = s.alters };
  held = s.held.now;
  in_comment = s.in_comment;
  notes_opener = s.notes_opener;
  inner_opener = s.inner_opener;
  kept = s.kept.now;
}

abbrev pub phase_of : Phase → PhaseFields
phase_of (code.Headers text) = InHeaders text.now
phase_of (code.Score s) = InScore (score_of s)

abbrev pub fields_of : code_state.StateFields → StateFields
fields_of s = record {
  format = s.format;
  all_warnings = s.all_warnings;
  header_limit = s.limits.header;
  syllable_limit = s.limits.syllable;
  input_limit = s.limits.input;
  taken = s.taken;
  place = s.place;
  pending = s.pending.now;
  after_cr = s.after_cr;
  has_error = s.has_error;
  phase = phase_of s.phase;
}
