-- The state that an engine saves, field by field.
use Rattle.std.specs.Prelude.{◌≡◌, ℕ, ◌+◌, ◌==◌, ◌||◌, List, [], length, Bool, Option, Some, None, encode_utf8_all}
use Rattle.std.specs.List.{list_any}
use Rattle.gabc_headers.specs.HeldText.{IsHeld, findings_held}
use Rattle.gabc_headers.specs.witness.HeadEvents.{HeadProgress, reading, after_headers, over}
use Rattle.gabc_neumes.specs.InForce.{InForce}
use Rattle.gabc_places.specs.DecoderReports.{is_after_cr}
use Rattle.gabc_places.specs.Place.{place_after}
use Rattle.gabc_places.specs.declared.limits.Limits.{Limits}
use Rattle.gabc_places.specs.declared.place.Place.{Place}
use Rattle.gabc_body.specs.Canonical.{canonical}
use Rattle.gabc_score.specs.ScoreReports.{held_of, is_in_comment, openers_of, reading_of}
use Rattle.gabc_body.specs.Syllable.{UnplacedSyllable}
use Rattle.gabc_score.specs.declared.preceding.Preceding.{Preceding}
use Rattle.gabc_score.specs.witness.ScoreStage.{ScoreStageState}
use Rattle.gregorio_state.specs.Fields.{PhaseFields, ScoreFields, StateFields, InHeaders, InScore}
use Rattle.gregorio.specs.Outcome.{is_error_finding}
use Rattle.gregorio.specs.witness.Engine.{EngineState}

-- the number of pending syllables
abbrev pub held_count : Option UnplacedSyllable → ℕ
held_count None = 0
held_count (Some m) = 1

-- the canonical text of the pending syllable, after these: the first one begins a word
abbrev pub held_text : Preceding → Option UnplacedSyllable → List ℕ
held_text p None = []
held_text p (Some m) = canonical ((p.syllables == 0) || m.text.word_start) m

-- the reports of a stage over a score in the body, if this is in force before the pending syllable
abbrev pub score_fields : InForce → ScoreStageState → ScoreFields
score_fields force s =
    let text = held_text s.before (held_of s) in
    record {
      nabc_lines = s.body.nabc_lines;
      macros = s.body.macros;
      syllables = s.before.syllables + held_count (held_of s);
      canonical = s.before.canonical + length text;
      in_eu = s.before.spans.eu;
      in_nlba = s.before.spans.nlba;
      sounded = s.before.sounded;
      in_force = force;
      held = text;
      in_comment = is_in_comment s.body.part;
      notes_opener = (openers_of s.body.part).notes;
      inner_opener = (openers_of s.body.part).inner;
      kept = reading_of s;
    }

-- in the headers their text so far
abbrev pub phase_fields : HeadProgress → InForce → ScoreStageState → PhaseFields
phase_fields (reading t) force s = InHeaders (encode_utf8_all t)
phase_fields (after_headers book) force s = InScore (score_fields force s)
phase_fields over force s = InScore (score_fields force s)

-- the state of an engine that runs, and of which nothing waits
abbrev pub state_of : EngineState → StateFields
state_of e = record {
  format = e.written.format;
  all_warnings = e.written.all_warnings;
  header_limit = e.score.limits.header;
  syllable_limit = e.score.limits.syllable;
  input_limit = e.score.limits.input;
  taken = e.decoder.taken;
  place = e.decoder.place;
  pending = e.decoder.pending;
  after_cr = is_after_cr e.decoder;
  has_error = e.written.errors;
  phase = phase_fields e.heads.progress e.written.force e.score;
}

-- These are the pending headers of a stage, this is the place after them, and this says whether an
-- error is found in them.
pub record GivesHeaders (limits : Limits) (t : List ℕ) (place : Place) (error : Bool) : Type 0 where
  pub held : IsHeld limits t
  pub next : place ≡ place_after t
  pub errors : error ≡ list_any is_error_finding (findings_held limits t)
