-- What a writer has written of a run of syllables, and what it will still write.
use Rattle.std.proofs.Common.{◌≡◌, ℕ, List, [], ◌∷◌, ◌++◌, Bool, true, false, IsSome, if◌then◌else◌, refl, ap, sym, ◌∙◌, arith}
use Rattle.std.proofs.lemmas.Bool.{or_parts}
use Rattle.gabc_headers.specs.declared.head_event.HeadEvent.{HeadEvent}
use Rattle.gabc_neumes.specs.InForce.{InForce}
use Rattle.gabc_places.proofs.PushesAreOne.{joined-append}
use Rattle.gabc_places.specs.StageLaw.{concat_of}
use Rattle.gabc_places.specs.declared.place.Place.{Place}
use Rattle.gabc_neumes.specs.InForce.{passed}
use Rattle.gabc_write.specs.DumpOfSyllables.{steps_of_syllable}
use Rattle.gabc_score.specs.Before.{sounds, with_one, with_placed}
use Rattle.gabc_score.specs.GivesSyllables.{text_inputs}
use Rattle.gabc_body.specs.ScoreEvents.{ScoreOutput, Syllable, syllables_in}
use Rattle.gabc_body.specs.Syllable.{PlacedSyllable}
use Rattle.gabc_score.specs.declared.preceding.Preceding.{Preceding}
use Rattle.gabc_score.specs.declared.score_machine.ScorePart.{ScorePart}
use Rattle.gabc_score.specs.witness.ScoreStage.{left_of}
use Rattle.gregorio_jobs.specs.declared.job.Format.{Format}
use Rattle.gregorio_jobs.specs.declared.job.Format.TheVariants.{Gabc, Dump}
use Rattle.gregorio.specs.Streams.{Streams, after_bytes, force_after}
use Rattle.gregorio.specs.machine.ClefInForce.{HasClefOfSounds, IsClefIn}
use Rattle.gregorio.specs.machine.RunWriter.{RunWriterState, TakesRuns, outputs_of_syllables}
use Rattle.gregorio.specs.machine.ScoreWriter.{IsSilent, KeepsJobAndRooms, ScoreWriterState, WritesRun, streams_of}
use Rattle.gregorio.specs.witness.Engine.{Written, after_output, after_outputs, lines_of_outputs, streams_in, texts_of_outputs}
use Rattle.gregorio.proofs.pieces.WriterKeepsPaceWithScore.{steady_past}
use Rattle.gregorio.proofs.StreamsOfOutputs.{headed_stays, in_body, some_and_rest}

-- ---- what is written

-- It is as before, but for how many syllables were written and what is in force after them.
pub record IsCounted (w v : Written) : Type 0 where
  pub count : ℕ
  pub force : InForce
  pub is : v ≡ record w { count = count; force = force }

pub counted_on : (ss : List PlacedSyllable) (w : Written) → IsCounted w (after_outputs w (outputs_of_syllables ss))
counted_on [] w = record { count = w.count; force = w.force; is = refl }
counted_on (s ∷ ss) w = grind (arith, counted_on ss (after_output w (Syllable s)))

pub syllables_of : (ss : List PlacedSyllable) → syllables_in (outputs_of_syllables ss) ≡ ss
syllables_of [] = refl
syllables_of (s ∷ ss) = ap (λ (l : List PlacedSyllable). s ∷ l) (syllables_of ss)

-- in canonical form nothing is in force that was not
pub same_force : (ss : List PlacedSyllable) (w : Written) → w.format ≡ Gabc → (after_outputs w (outputs_of_syllables ss)).force ≡ w.force
same_force [] w canonical = refl
same_force (s ∷ ss) w canonical = grind (arith, same_force ss (after_output w (Syllable s)) canonical)

-- if nothing sounds in syllables and before them, nothing sounds before them
earlier_silent : (ss : List PlacedSyllable) (p : Preceding) → (with_placed p ss).sounded ≡ false → p.sounded ≡ false
earlier_silent [] p silent = silent
earlier_silent (s ∷ ss) p silent = (or_parts p.sounded (sounds s.made) (earlier_silent ss (with_placed p (s ∷ [])) silent)).0

-- that a syllable without a note or a clef leaves the clef in force
abbrev pub ClefStays : Type 0
ClefStays = (outset : InForce) (s : PlacedSyllable) → sounds s.made ≡ false → (passed outset (steps_of_syllable s)).clef ≡ outset.clef

-- if nothing sounds in syllables, they leave it
same_clef : ClefStays → (ss : List PlacedSyllable) (w : Written) (p : Preceding) → (with_placed p ss).sounded ≡ false → (after_outputs w (outputs_of_syllables ss)).force.clef ≡ w.force.clef
same_clef stays [] w p silent = refl
same_clef stays (s ∷ ss) w p silent =
    same_clef stays ss (after_output w (Syllable s)) (with_one p s.made) silent
    ∙ by w.headed w.format (or_parts p.sounded (sounds s.made) (earlier_silent ss (with_placed p (s ∷ [])) silent)).1
  where
    by : (headed : Bool) (format : Format) → sounds s.made ≡ false → (if headed then force_after format w.force s else w.force).clef ≡ w.force.clef
    by true Gabc none = refl
    by true Dump none = stays w.force s none
    by false format none = refl

module _ (old : ScoreWriterState) (at : Place) (t : List ℕ) (new : ScoreWriterState) (r : WritesRun old at t new) where
  abbrev outputs : List ScoreOutput
  outputs = outputs_of_syllables r.syllables

  pub run_counted : IsCounted old.writer.written new.writer.written
  run_counted = grind (arith, counted_on)

  pub run_steady : KeepsJobAndRooms old new
  run_steady = steady_past old new old.writer outputs (record { limits = r.gives.limits; format = refl; name = refl; all_warnings = refl; out = refl; messages = refl }) r.taken

  -- ---- between two calls

  pub run_silent : TakesRuns old.writer.written → IsSome new.writer.written.ended → IsSilent new.score
  run_silent takes over = grind (arith, run_counted)

  module _ (stays : ClefStays) where
    clef_in : (part : ScorePart) → old.score.part ≡ part → IsClefIn part old.score.before.sounded old.writer.written.force.clef → IsClefIn part (with_placed old.score.before r.syllables).sounded new.writer.written.force.clef
    clef_in part e was = grind (arith, same_clef, earlier_silent)

    pub run_clef : TakesRuns old.writer.written → HasClefOfSounds old.score old.writer.written → HasClefOfSounds new.score new.writer.written
    run_clef takes had = grind (arith, clef_in)

  -- ---- what it will still write

  given_first : (from_heads : List HeadEvent) → concat_of (left_of old.score (text_inputs at t ++ from_heads)) ≡ outputs ++ concat_of (left_of new.score from_heads)
  given_first from_heads = grind (arith, joined-append)

  pub run_law : old.writer.written.headed ≡ true → (book : List (List ℕ × List ℕ)) (from_heads : List HeadEvent)
      → streams_of old book (text_inputs at t ++ from_heads)
      ≡ after_bytes (texts_of_outputs old.writer.written outputs) (lines_of_outputs old.writer.written outputs) (streams_of new book from_heads)
  run_law headed book from_heads =
      let v = old.writer.written in
      let rest = concat_of (left_of new.score from_heads) in
      let same : new.writer.written ≡ after_outputs v outputs = ap (λ (w : RunWriterState). w.written) r.taken in
      let later : streams_of new book from_heads ≡ streams_in (after_outputs v outputs) rest =
      in_body new.writer.written book from_heads (left_of new.score from_heads) (ap (λ (u : Written). u.headed) same ∙ (headed_stays v outputs ∙ headed))
      ∙ ap (λ (u : Written). streams_in u rest) same in
      in_body v book (text_inputs at t ++ from_heads) (left_of old.score (text_inputs at t ++ from_heads)) headed
      ∙ (ap (streams_in v) (given_first from_heads)
      ∙ (some_and_rest v outputs rest
      ∙ ap (λ (s : Streams). after_bytes (texts_of_outputs v outputs) (lines_of_outputs v outputs) s) (sym later)))
