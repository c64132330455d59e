-- What is written goes on with what the score gives.
use Rattle.std.proofs.Common.{◌≡◌, ℕ, ◌+◌, ◌≤◌, List, [], ◌∷◌, length, Bool, true, false, is_none, if◌then◌else◌, refl, ap, sym, subst, ◌∙◌, arith}
use Rattle.std.proofs.Math.Bool.{or-false}
use Rattle.std.proofs.lemmas.Bool.{false≢true}
use Rattle.std.specs.List.{list_any}
use Rattle.gabc_headers.specs.declared.head_event.HeadEvent.{HeadEvent}
use Rattle.gabc_headers.specs.declared.head_event.HeadEvent.TheVariants as head_event
use Rattle.gabc_score.specs.declared.preceding.Preceding.{Preceding}
use Rattle.gabc_score.specs.Before.{with_placed}
use Rattle.gabc_body.specs.ScoreEvents.{ScoreOutput, Found, Stop, Syllable, End, is_last, syllables_in}
use Rattle.gabc_body.specs.Syllable.{PlacedSyllable}
use Rattle.gabc_score.specs.witness.ScoreStage.{ScoreStageState}
use Rattle.gabc_headers.proofs.stages.CharactersOfAStage.{nothing_added}
use Rattle.gregorio.specs.Streams.{force_after, next_number}
use Rattle.gregorio.specs.witness.Engine.{Written, after_output, after_outputs, is_heads}
use Rattle.gregorio.specs.machine.InStep.{HasForce, PassesAll, PassesOn, written_at}
use Rattle.gregorio.specs.machine.RunWriter.{RunWriterState, heads_at, past_end, past_outputs}
use Rattle.gregorio.specs.machine.ScoreWriter.{KeepsJobAndRooms, ScoreWriterState}
use Rattle.gregorio.proofs.StreamsOfOutputs.{job_stays}

-- ---- what is written

stays_over : (w : Written) (outputs : List ScoreOutput) → is_none w.ended ≡ false → is_none (after_outputs w outputs).ended ≡ false
stays_over w [] e = e
stays_over w (Found f ∷ outputs) e = stays_over (after_output w (Found f)) outputs e
stays_over w (Stop fault ∷ outputs) e = stays_over (after_output w (Stop fault)) outputs refl
stays_over w (Syllable s ∷ outputs) e = stays_over (after_output w (Syllable s)) outputs e
stays_over w (End ∷ outputs) e = stays_over (after_output w End) outputs refl

-- a run that goes on after these went on before, and neither a stop nor the end is among them
pub record GoesOn (w : Written) (outputs : List ScoreOutput) : Type 0 where
  pub before : is_none w.ended ≡ true
  pub none_last : list_any is_last outputs ≡ false

went_on : (w : Written) (outputs : List ScoreOutput) → is_none (after_outputs w outputs).ended ≡ true → GoesOn w outputs
went_on w [] e = record { before = e; none_last = refl }
went_on w (Found f ∷ outputs) e = let g = went_on (after_output w (Found f)) outputs e in record { before = g.before; none_last = g.none_last }
went_on w (Stop fault ∷ outputs) e = absurd (false≢true (sym (stays_over (after_output w (Stop fault)) outputs refl) ∙ e))
went_on w (Syllable s ∷ outputs) e = let g = went_on (after_output w (Syllable s)) outputs e in record { before = g.before; none_last = g.none_last }
went_on w (End ∷ outputs) e = absurd (false≢true (sym (stays_over (after_output w End) outputs refl) ∙ e))

-- as many are written as are given
pub counted : (outputs : List ScoreOutput) (w : Written) (p : Preceding) → w.headed ≡ true → w.count ≡ p.syllables → (after_outputs w outputs).count ≡ (with_placed p (syllables_in outputs)).syllables
counted [] w p headed e = e
counted (Found f ∷ outputs) w p headed e = counted outputs (after_output w (Found f)) p headed e
counted (Stop fault ∷ outputs) w p headed e = counted outputs (after_output w (Stop fault)) p headed e
counted (Syllable s ∷ outputs) w p headed e =
    counted outputs (after_output w (Syllable s)) (with_placed p (s ∷ [])) headed (rw headed (ap next_number e))
counted (End ∷ outputs) w p headed e = counted outputs (after_output w End) p headed e

-- before the headers none is
pub none_counted : (outputs : List ScoreOutput) (w : Written) → w.headed ≡ false → (after_outputs w outputs).count ≡ w.count
none_counted [] w headed = refl
none_counted (Found f ∷ outputs) w headed = none_counted outputs (after_output w (Found f)) headed
none_counted (Stop fault ∷ outputs) w headed = none_counted outputs (after_output w (Stop fault)) headed
none_counted (Syllable s ∷ outputs) w headed = none_counted outputs (after_output w (Syllable s)) headed ∙ rw headed refl
none_counted (End ∷ outputs) w headed = none_counted outputs (after_output w End) headed

pub few_more : (ss : List PlacedSyllable) (p : Preceding) → (with_placed p ss).syllables ≤ p.syllables + length ss
few_more [] p = omega arith
few_more (s ∷ ss) p = let h = few_more ss (with_placed p (s ∷ [])) in omega (arith, h)

syllable_forces : (w : Written) (s : PlacedSyllable) (headed : Bool) → HasForce w
    → HasForce (record w { count = if headed then next_number w.count else w.count; force = if headed then force_after w.format w.force s else w.force })
syllable_forces w s headed h = grind arith

forces : (outputs : List ScoreOutput) (w : Written) → HasForce w → HasForce (after_outputs w outputs)
forces [] w h = h
forces (Found f ∷ outputs) w h = forces outputs (after_output w (Found f)) (record { untracked = h.untracked; outset = h.outset })
forces (Stop fault ∷ outputs) w h = forces outputs (after_output w (Stop fault)) (record { untracked = h.untracked; outset = h.outset })
forces (Syllable s ∷ outputs) w h =
    let g = syllable_forces w s w.headed h in
    forces outputs (after_output w (Syllable s)) (record { untracked = g.untracked; outset = g.outset })
forces (End ∷ outputs) w h = forces outputs (after_output w End) (record { untracked = h.untracked; outset = h.outset })

forced_at : (w : Written) (x : HeadEvent) → HasForce w → HasForce (written_at w x)
forced_at w x h = record { untracked = h.untracked; outset = h.outset }

pub force_past : (old : ScoreStageState) (w : Written) (x : HeadEvent) (new : ScoreWriterState) → PassesOn old w x new → HasForce w → HasForce new.writer.written
force_past old w x new p h = subst HasForce (sym p.written) (forces p.outputs w h)

pub force_past_all : (events : List HeadEvent) (old new : ScoreWriterState) → PassesAll old events new → HasForce old.writer.written → HasForce new.writer.written
force_past_all [] old new all h = subst (λ (s : ScoreWriterState). HasForce s.writer.written) all h
force_past_all (x ∷ events) old new all h =
    force_past_all events all.0 new all.1.1 (force_past old.score (written_at old.writer.written x) x all.0 all.1.0 (forced_at old.writer.written x h))

-- what no call changes, if this was written of outputs
pub steady_past : (old new : ScoreWriterState) (w : RunWriterState) (outputs : List ScoreOutput) → KeepsJobAndRooms old (record { score = new.score; writer = w }) → new.writer ≡ past_outputs w outputs → KeepsJobAndRooms old new
steady_past old new w outputs s e = grind (arith, job_stays)

-- if an event is not that of the headers, they are not written
pub no_heads : (x : HeadEvent) → ((lines macros canonical : ℕ) → x ≡ head_event.Heads lines macros canonical → ⊥) → is_heads x ≡ false
no_heads x other = grind arith

pub not_written : (w : RunWriterState) (x : HeadEvent) (book : List (List ℕ × List ℕ)) → is_heads x ≡ false → heads_at w x book ≡ w
not_written w x book none = grind (arith, or-false, nothing_added)

pub went_on_past : (old : ScoreStageState) (w : Written) (x : HeadEvent) (new : ScoreWriterState) (p : PassesOn old w x new) → is_none new.writer.written.ended ≡ true → GoesOn w p.outputs
went_on_past old w x new p running = went_on w p.outputs (subst (λ (v : Written). is_none v.ended ≡ true) p.written running)

pub running_before : (events : List HeadEvent) (old new : ScoreWriterState) → PassesAll old events new → is_none new.writer.written.ended ≡ true → is_none old.writer.written.ended ≡ true
running_before [] old new all running = subst (λ (s : ScoreWriterState). is_none s.writer.written.ended ≡ true) (sym all) running
running_before (x ∷ events) old new all running =
    (went_on_past old.score (written_at old.writer.written x) x all.0 all.1.0 (running_before events all.0 new all.1.1 running)).before

pub force_ended : (w : RunWriterState) (outputs : List ScoreOutput) → HasForce w.written → HasForce (past_end (past_outputs w outputs)).written
force_ended w outputs h = let g = forces outputs w.written h in record { untracked = g.untracked; outset = g.outset }
