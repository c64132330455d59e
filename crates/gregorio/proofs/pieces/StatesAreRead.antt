-- The texts that an engine saves are read as it says.
use Rattle.std.proofs.Common.{◌≡◌, ℕ, ◌+◌, List, [], length, encode_utf8_all, true, Option, Some, None, IfSome, refl, sym, subst, ◌∙◌, arith}
use Rattle.std.specs.Prelude.{IsUtf8, ◌≢◌}
use Rattle.std.specs.Str.{chars}
use Rattle.std.proofs.lemmas.Bool.{false≢true}
use Rattle.std.proofs.lemmas.Str.{chars_from_encodes}
use Rattle.gabc_headers.specs.witness.HeadEvents.{HeadProgress, reading, after_headers, over}
use Rattle.gabc_neumes.specs.InForce.{InForce}
use Rattle.gabc_score.specs.Before.{preceding_of}
use Rattle.gabc_score.specs.HeldAgain.{MayBeHeld}
use Rattle.gabc_score.specs.ScoreReports.{before_with, held_of, reading_of}
use Rattle.gabc_body.specs.Syllable.{UnplacedSyllable}
use Rattle.gabc_score.specs.ReportedWithin.{written_after}
use Rattle.gabc_body.specs.declared.before.Before.{Before}
use Rattle.gabc_score.specs.declared.score_machine.ScorePart.TheVariants as score_part
use Rattle.gabc_score.specs.witness.ReadAgain.{CanBeReadAgain}
use Rattle.gabc_score.specs.witness.ScoreStage.{ScoreStageState}
use Rattle.gabc_write.specs.SetDown.{MayBeHeldByItsText}
use Rattle.gregorio_state.specs.Conditions.{ArePhaseFields, AreStateFields}
use Rattle.gregorio_state.specs.Fields.{ScoreFields}
use Rattle.gregorio.specs.Saved.{GivesHeaders, held_count, held_text, phase_fields, score_fields, state_of}
use Rattle.gregorio.specs.SavedState.{AreOfState, IsHeldRead, IsPhaseRead, IsScoreRead, before_held}
use Rattle.gregorio.specs.witness.Engine.{EngineState}
use Rattle.gregorio.specs.machine.InStep.{AreInOnePart}
use Rattle.gregorio.specs.machine.ReadsHeaders.{IsReadSoFar}
use Rattle.gregorio.specs.witness.CanRun.{CanRun}
use Rattle.gregorio.proofs.setting_down.KeptAsReported.{KeptAgain, KeptShort, ReadInText, is_reported_so, kept_read}

-- ---- the held syllable

module _ (force : InForce) (s : ScoreStageState) where
  -- what it says if this is held
  abbrev fields_with : Option UnplacedSyllable → ScoreFields
  fields_with held = record (score_fields force s) {
    syllables = s.before.syllables + held_count held;
    canonical = s.before.canonical + length (held_text s.before held);
    held = held_text s.before held;
  }

  abbrev before : Before
  before = before_with s.body s.before

  -- before that syllable stands what stood before it
  before_again : (m : UnplacedSyllable) → before_held (fields_with (Some m)) ≡ before
  before_again m = grind arith

  held_is_read : (held : Option UnplacedSyllable) → IfSome held (MayBeHeldByItsText s.limits before) → IsUtf8 (held_text s.before held) → (fields_with held).held ≢ [] → IsHeldRead s.limits (fields_with held)
  held_is_read None by utf8 some = absurd (some refl)
  held_is_read (Some m) by utf8 some = record {
    m = by.again;
    may =
        subst (λ (b : Before). MayBeHeld s.limits b (chars (written_after s.before m)) by.again) (sym (before_again m))
        (subst (λ (t : List ℕ). MayBeHeld s.limits before t by.again) (chars_from_encodes by.text (written_after s.before m) utf8 (sym by.bytes)) by.may);
    is = subst (λ (b : Before). written_after (preceding_of b) by.again ≡ written_after s.before m) (sym (before_again m)) by.same_text;
  }

-- ---- the text that is kept

pub score_is_read : (force : InForce) (s : ScoreStageState) → s.part ≡ score_part.Body → CanBeReadAgain s → ReadInText → KeptAgain → KeptShort → IfSome (held_of s) (MayBeHeldByItsText s.limits (before_with s.body s.before))
    → IsUtf8 (held_text s.before (held_of s)) → IsUtf8 (reading_of s) → IsScoreRead s.limits (score_fields force s)
score_is_read force s body again in_text kept_again kept_short by utf8 kept_utf8 =
    let f = score_fields force s in
    record {
      held = held_is_read force s (held_of s) by utf8;
      kept = kept_read s.limits f kept_utf8 kept_again kept_short (is_reported_so f s s.limits refl body refl refl (record { kept = refl; openers_are = refl; comment = refl }) again in_text);
    }

-- ---- what is saved

module _ (e : EngineState) where
  phase_is_read : (p : HeadProgress) → AreInOnePart p e.score.part e.written.headed → ArePhaseFields (state_of e) (phase_fields p e.written.force e.score)
      → IsReadSoFar e.score.limits p e.decoder.place e.written.errors → (e.written.headed ≡ true → IsScoreRead e.score.limits (score_fields e.written.force e.score))
      → IsPhaseRead e.score.limits (state_of e) (phase_fields p e.written.force e.score)
  phase_is_read (reading t) parts fields read score =
      subst (λ (u : List ℕ). GivesHeaders e.score.limits u e.decoder.place e.written.errors) (chars_from_encodes t (encode_utf8_all t) fields.is_text.utf8 refl) read.gives
  phase_is_read (after_headers book) parts fields read score = score parts.written_so
  phase_is_read over parts fields read score = absurd parts

  pub state_is_read : CanRun e → AreStateFields (state_of e) → (e.written.headed ≡ true → IsScoreRead e.score.limits (score_fields e.written.force e.score)) → IsPhaseRead e.score.limits (state_of e) (state_of e).phase
  state_is_read may fields score = grind (arith, phase_is_read)

  -- if the headers are written, the held text and the kept text are texts
  texts_in : (p : HeadProgress) → e.written.headed ≡ true → AreInOnePart p e.score.part e.written.headed → ArePhaseFields (state_of e) (phase_fields p e.written.force e.score)
      → IsUtf8 (held_text e.score.before (held_of e.score)) × IsUtf8 (reading_of e.score)
  texts_in (reading t) headed parts fields = absurd (false≢true (sym parts.written_so ∙ headed))
  texts_in (after_headers book) headed parts fields = (fields.held.is_text.utf8, fields.kept.utf8)
  texts_in over headed parts fields = absurd parts

  pub texts_are_utf8 : CanRun e → e.written.headed ≡ true → AreStateFields (state_of e) → IsUtf8 (held_text e.score.before (held_of e.score)) × IsUtf8 (reading_of e.score)
  texts_are_utf8 may headed fields = texts_in e.heads.progress headed may.step.parts fields.phase

  pub is_a_state : AreStateFields (state_of e) → IsPhaseRead e.score.limits (state_of e) (state_of e).phase → AreOfState (state_of e)
  is_a_state fields read = record { fields = fields; limits = e.score.limits; limits_are = record { header = refl; syllable = refl; input = refl }; read = read }
