-- The kept text of a state is read as its fields say, or it is not.
use Rattle.std.proofs.Common.{◌≡◌, ◌-◌, Bool, true, false, is_some, Option, Some, ap, sym, subst, ◌∙◌, arith}
use Rattle.gabc_places.specs.declared.place.Place.{Place}
use Rattle.gabc_places.specs.TextOfAnInput.{IsText}
use Rattle.gabc_score.specs.Before.{preceding_of}
use Rattle.gabc_score.specs.ReadAgain.{ComesBefore, ReportsReading, ReportsTheSameBut}
use Rattle.gabc_score.specs.ScoreReports.{before_of, before_with, in_body, is_in_comment, is_in_front, openers_of, reading_in_body}
use Rattle.gabc_score.specs.ReportedWithin.{AreOpenersBefore, IsPlace, ReportsText}
use Rattle.gabc_body.specs.declared.before.Before.{Before}
use Rattle.gabc_score.specs.declared.body_tells.Openers.{Openers}
use Rattle.gabc_score.specs.declared.score_machine.ScorePart.{ScorePart}
use Rattle.gabc_score.specs.declared.score_machine.ScorePart.TheVariants as score_part
use Rattle.gabc_score.specs.witness.ReadAgain.{CanBeReadAgain}
use Rattle.gabc_score.specs.witness.ScoreStage.{ScoreStageState}
use Rattle.gregorio_state.specs.Conditions.{AreOpeners}
use Rattle.gregorio_state.specs.Fields.{ScoreFields}
use Rattle.gregorio.specs.SavedState.{before_held}
use Rattle.gregorio.specs.machine.SettingDown.{HasRead, HoldsHeld, IsReportedSo, ReadsOn, openers_reported}
use Rattle.gregorio.proofs.setting_down.PendingTextIsReadIfItRoundTrips.{before_told, told_in_body}
use Rattle.gregorio.proofs.setting_down.KeptAsReported.{ReadInText, is_reported_so}

module _ (f : ScoreFields) (old : ScoreStageState) (holds : HoldsHeld f old) where
  stands_before : is_in_comment old.body.part ≡ false → ComesBefore old
  stands_before outside = grind arith

  module _ (o : Openers) (open_at : o ≡ openers_reported f) (new : ScoreStageState) (result : Bool) where
    -- what is read again if a stage reports of the kept text
    abbrev ReadsAgain : Type 0
    ReadsAgain = (told : ScoreStageState) → CanBeReadAgain told → told.limits ≡ old.limits → before_of told ≡ before_of old → ReportsReading told f.kept o f.in_comment → ComesBefore old
        → (result ≡ true) × ReportsReading new f.kept o f.in_comment

    -- if the kept text is read so, all of it is kept
    pub is_kept_again : is_in_comment old.body.part ≡ false → ReadsAgain → IsReportedSo old.limits f → (result ≡ true) × ReportsReading new f.kept (openers_reported f) f.in_comment
    is_kept_again outside again kept =
        let h = again told (record { body = kept.keeps.body; told = kept.keeps.told }) kept.limits_are same_before (subst (λ (x : Openers). ReportsReading told f.kept x f.in_comment) (sym open_at) tells) (stands_before outside) in
        (h.0, subst (λ (x : Openers). ReportsReading new f.kept x f.in_comment) open_at h.1)
      where
        told : ScoreStageState
        told = record kept.stage { before = preceding_of (before_held f) }

        before_there : before_with told.body told.before ≡ before_held f
        before_there = λ i. record {
          nabc_lines = kept.lines i;
          macros = kept.macros i;
          syllables = f.syllables - 1;
          canonical = (before_held f).canonical;
          spans = (before_held f).spans;
          sounded = f.sounded;
        }

        same_before : before_of told ≡ before_of old
        same_before = ap (λ (p : ScorePart). in_body p (before_with told.body told.before)) kept.keeps.body ∙ ap (λ (b : Before). Some b) before_there ∙ sym holds.after.before_is

        tells : ReportsReading told f.kept (openers_reported f) f.in_comment
        tells = record { front = kept.tells.front; reading = kept.tells.reading; openers_are = kept.tells.openers_are; comment_is = kept.tells.comment_is }

  -- a stage that reports so has read it
  pub has_read : (new : ScoreStageState) → ReportsReading new f.kept (openers_reported f) f.in_comment → HasRead f new
  has_read new tells = record { kept = tells.reading; openers_are = tells.openers_are; comment = tells.comment_is }

  module _ (place : Place) (new : ScoreStageState) (limits : new.limits ≡ old.limits) (same : ReportsTheSameBut old new place) where
    new_before_of : before_of new ≡ Some (before_held f)
    new_before_of = same.before_same ∙ holds.after.before_is

    new_before : before_with new.body new.before ≡ before_held f
    new_before = before_told new (before_held f) new_before_of

    pub new_runs : is_some (before_of new) ≡ true
    new_runs = ap (λ (b : Option Before). is_some b) new_before_of

    body_of : (p : ScorePart) (b c : Before) → in_body p b ≡ Some c → p ≡ score_part.Body
    body_of p b c is = grind arith

    pub new_body : new.part ≡ score_part.Body
    new_body = body_of new.part (before_with new.body new.before) (before_held f) new_before_of

    -- if it is read so, it reports so
    pub reports : HasRead f new → CanBeReadAgain new → ReadInText → IsReportedSo old.limits f
    reports read can law =
        is_reported_so f new old.limits limits new_body (ap (λ (b : Before). b.nabc_lines) new_before) (ap (λ (b : Before). b.macros) new_before) read can law

    -- it goes on there
    module _ (read : HasRead f new) (open_there : AreOpeners place f) where
      new_preceding : new.before ≡ old.before
      new_preceding = ap preceding_of (new_before ∙ sym (before_told old (before_held f) holds.after.before_is))

      openers_there : AreOpenersBefore place (openers_of new.body.part)
      openers_there = subst (AreOpenersBefore place) (sym read.openers_are) (record { notes = open_there.notes; inner = open_there.inner; in_order = open_there.in_order })

      pub reads_on : is_in_front new.body.part ≡ false → IsPlace place → IsText f.kept
          → (IsPlace place → AreOpenersBefore place (openers_of new.body.part) → IsText (reading_in_body new.part new.held.gathered.builder.kept) → ReportsText old → ReportsText new) → ReadsOn place f new
      reads_on front is_place is_text told = grind (arith, new_before_of, new_preceding, told_in_body, openers_there)
