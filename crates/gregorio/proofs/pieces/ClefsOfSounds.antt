-- If no note and no clef has come, no clef is in force.
use Rattle.std.proofs.Common.{◌≡◌, List, [], ◌∷◌, Bool, true, false, Option, None, is_none, if◌then◌else◌, refl, ap, sym, subst, ◌∙◌, arith}
use Rattle.std.proofs.lemmas.Bool.{or_parts}
use Rattle.gabc_headers.specs.declared.head_event.HeadEvent.{HeadEvent}
use Rattle.gabc_neumes.specs.InForce.{InForce, passed}
use Rattle.gabc_neumes.specs.declared.sound.Clef.{Clef}
use Rattle.gabc_score.specs.declared.preceding.Preceding.{Preceding}
use Rattle.gabc_score.specs.declared.score_machine.ScorePart.{ScorePart}
use Rattle.gabc_score.specs.declared.score_machine.ScorePart.TheVariants as score_part
use Rattle.gabc_score.specs.Before.{sounds, with_placed}
use Rattle.gabc_body.specs.ScoreEvents.{ScoreOutput, Syllable, syllables_in}
use Rattle.gabc_score.specs.ScoreStage.{part_past, preceding_past}
use Rattle.gabc_body.specs.Syllable.{PlacedSyllable}
use Rattle.gabc_score.specs.witness.ScoreStage.{ScoreStageState}
use Rattle.gabc_write.specs.DumpOfSyllables.{steps_of_syllable}
use Rattle.gregorio.specs.Streams.{force_after}
use Rattle.gregorio.specs.machine.ClefInForce.{HasClefOfSounds, IsClefIn}
use Rattle.gregorio.specs.machine.InStep.{PassesOn, given_in_heads}
use Rattle.gregorio.specs.machine.ScoreWriter.{ScoreWriterState}
use Rattle.gregorio.specs.witness.Engine.{Written, after_output, after_outputs}
use Rattle.gregorio.proofs.pieces.PartsStayInStep.{body_goes}
use Rattle.gregorio.proofs.pieces.WriterKeepsPaceWithScore.{went_on_past}
use Rattle.gregorio_jobs.specs.declared.job.Format.{Format}

-- ---- the clef

abbrev pub LeavesClef : Type 0
LeavesClef = (outset : InForce) (s : PlacedSyllable) → sounds s.made ≡ false → (passed outset (steps_of_syllable s)).clef ≡ outset.clef

clef_after : LeavesClef → (format : Format) (force : InForce) (s : PlacedSyllable) → sounds s.made ≡ false → (force_after format force s).clef ≡ force.clef
clef_after law format force s silent = grind arith

silent_on : LeavesClef → (outputs : List ScoreOutput) (w : Written) (p : Preceding) → (p.sounded ≡ false → w.force.clef ≡ None) → (with_placed p (syllables_in outputs)).sounded ≡ false
    → (after_outputs w outputs).force.clef ≡ None
silent_on law [] w p before silent = before silent
silent_on law (Syllable s ∷ outputs) w p before silent = silent_on law outputs (after_output w (Syllable s)) (with_placed p (s ∷ [])) (λ both. by (or_parts p.sounded (sounds s.made) both) w.headed) silent
  where
    by : (p.sounded ≡ false) × (sounds s.made ≡ false) → (headed : Bool) → (if headed then force_after w.format w.force s else w.force).clef ≡ None
    by both true = clef_after law w.format w.force s both.1 ∙ before both.0
    by both false = before both.0
silent_on law (o ∷ outputs) w p before silent = silent_on law outputs (after_output w o) p before silent

-- ---- an event

same_in_heads : (w : Written) (x : HeadEvent) → (after_outputs w (given_in_heads x)).force.clef ≡ w.force.clef
same_in_heads w x = grind arith

no_clef_in : (part : ScorePart) (sounded : Bool) (clef : Option Clef) → clef ≡ None → IsClefIn part sounded clef
no_clef_in part sounded clef none = grind arith

over_stays : (x : HeadEvent) (outputs : List ScoreOutput) (part : ScorePart) → part ≡ score_part.Over → part_past part x outputs ≡ score_part.Over
over_stays x outputs part over = rw over refl

module _ (law : LeavesClef) (old : ScoreStageState) (w : Written) (x : HeadEvent) (new : ScoreWriterState) (p : PassesOn old w x new) (running : is_none new.writer.written.ended ≡ true) where
  clef_by : (part : ScorePart) → old.part ≡ part → IsClefIn part old.before.sounded w.force.clef → IsClefIn new.score.part new.score.before.sounded new.writer.written.force.clef
  clef_by score_part.Heads e was =
      no_clef_in new.score.part new.score.before.sounded new.writer.written.force.clef
      (ap (λ (v : Written). v.force.clef) p.written
      ∙ (ap (λ (outputs : List ScoreOutput). (after_outputs w outputs).force.clef) (p.in_heads e) ∙ (same_in_heads w x ∙ was)))
  clef_by score_part.Body e was =
      let on = went_on_past old w x new p running in
      let body : new.score.part ≡ score_part.Body = p.part ∙ body_goes x p.outputs old.part e on.none_last in
      let before : new.score.before ≡ with_placed old.before (syllables_in p.outputs) = p.before_held body ∙ ap (λ (part : ScorePart). preceding_past part x p.outputs old.before) e in
      subst (λ (part : ScorePart). IsClefIn part new.score.before.sounded new.writer.written.force.clef) (sym body)
      (λ silent. ap (λ (v : Written). v.force.clef) p.written ∙ silent_on law p.outputs w old.before was (ap (λ (q : Preceding). q.sounded) (sym before) ∙ silent))
  clef_by score_part.Over e was =
      subst (λ (part : ScorePart). IsClefIn part new.score.before.sounded new.writer.written.force.clef) (sym (p.part ∙ over_stays x p.outputs old.part e)) tt

pub clef_past : LeavesClef → (old : ScoreStageState) (w : Written) (x : HeadEvent) (new : ScoreWriterState) → PassesOn old w x new → HasClefOfSounds old w → HasClefOfSounds new.score new.writer.written
clef_past law old w x new p had = λ running. clef_by law old w x new p running old.part refl (had (went_on_past old w x new p running).before)
