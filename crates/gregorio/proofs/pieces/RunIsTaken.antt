-- A text at which a run of syllables is written brings these, and all parts of an engine stay in
-- step.
use Rattle.std.proofs.Common.{◌≡◌, ℕ, ◌+◌, ◌≤◌, List, [], ◌∷◌, ◌++◌, length, map, take, true, false, Result, Ok, ap, sym, subst, ◌∙◌, length-append, arith}
use Rattle.std.proofs.Math.Seq.{take-append-add}
use Rattle.std.proofs.lemmas.Bool.{false≢true}
use Rattle.std.specs.Str.{chars}
use Rattle.std.specs.declared.hash.DefaultHasher.{DefaultHasher}
use Rattle.gabc_places.proofs.PushesAreOne.{joined-append}
use Rattle.gabc_places.specs.DecoderMachine.{DecoderState, IsReached}
use Rattle.gabc_places.specs.DecoderReports.{is_after_cr}
use Rattle.gabc_places.specs.Place.{place_past, placed_characters_from}
use Rattle.gabc_places.specs.StageLaw.{concat_of}
use Rattle.gabc_places.specs.declared.code.Fault.{Fault}
use Rattle.gabc_places.specs.declared.limits.Limits.{Limits}
use Rattle.gabc_places.specs.declared.place.Char.{Char}
use Rattle.gabc_places.specs.declared.place.Place.{Place}
use Rattle.gabc_places.specs.witness.DecoderEvents as decoder
use Rattle.gabc_headers.specs.HeadEvents.{emitted_by}
use Rattle.gabc_headers.specs.declared.head_event.HeadEvent.{HeadEvent}
use Rattle.gabc_headers.specs.witness.HeadEvents.{HeaderStageState, HeadProgress, IsAfterHeaders, after_headers}
use Rattle.gabc_score.specs.GivesSyllables.{next_after}
use Rattle.gabc_score.specs.ScoreStage.{Counts}
use Rattle.gabc_body.specs.ScoreEvents.{Syllable}
use Rattle.gabc_body.specs.Syllable.{PlacedSyllable}
use Rattle.gabc_score.specs.Before.{with_placed}
use Rattle.gabc_score.specs.declared.preceding.Preceding.{Preceding}
use Rattle.gregorio.specs.Outcome.{is_whole}
use Rattle.gregorio.specs.Streams.{after_bytes}
use Rattle.gregorio.specs.declared.source_ending.SourceEnding.{SourceEnding}
use Rattle.gregorio.specs.machine.Engine.{GoTogether, WritesItems, streams_of_items}
use Rattle.gregorio.specs.machine.InStep.{HasForce, IsInStep, RunsInStep}
use Rattle.gregorio.specs.machine.ReadsHeaders.{ReadsHeaders}
use Rattle.gregorio.specs.machine.RunWriter.{RunWriterState, TakesRuns, outputs_of_syllables}
use Rattle.gregorio.specs.machine.ScoreWriter.{ScoreWriterState, WritesRun, streams_of}
use Rattle.gregorio.specs.machine.InSync.{IsTelling}
use Rattle.gabc_neumes.specs.InForce.{nothing_in_force}
use Rattle.gregorio.specs.witness.Engine.{after_output, after_outputs, Written, book_after, head_events_left, lines_of_outputs, texts_of_outputs}
use Rattle.gregorio.proofs.pieces.BytesAreTaken.{items_taken}
use Rattle.gregorio.proofs.pieces.ItemsAreRead.{inputs_after, past_after}
use Rattle.gregorio.proofs.pieces.PartsStayInStep.{IsInBody, in_body, one_part}
use Rattle.gregorio.proofs.pieces.RunIsWritten.{run_counted, run_law, same_force, syllables_of}
use Rattle.gregorio.proofs.pieces.TextOfHeaders.{headed_read}
use Rattle.gregorio.proofs.pieces.WriterKeepsPaceWithScore.{counted}

-- ---- what a decoder gives

-- these characters of a text
abbrev pub items_of : Place → List ℕ → List (Result Char Fault)
items_of at t = map (λ (x : Char). Ok x) (placed_characters_from at t)

-- a decoder has taken this text at once
pub record SkipsText (d : DecoderState) (text : List ℕ) (e : DecoderState) : Type 0 where
  pub lists : List (List (Result Char Fault))
  pub joined : (more : List ℕ) → decoder.events_left d (text ++ more) ≡ lists ++ decoder.events_left e more
  pub one_each : length lists ≡ length text
  pub all : concat_of lists ≡ items_of d.place (chars text)
  pub few : length (chars text) ≤ length text
  pub limit : e.limit ≡ d.limit
  pub taken : e.taken ≡ d.taken + length text
  pub place : e.place ≡ place_past d.place (chars text)
  pub reached : IsReached e.place (length e.pending) e.taken
  pub ended : e.ended ≡ d.ended
  pub cr : is_after_cr e ≡ false

module _ (bytes more : List ℕ) (lists rest : List (List (Result Char Fault))) (items : List (Result Char Fault)) (one_each : length lists ≡ length bytes) (all : concat_of lists ≡ items) where
  first_whole : concat_of (lists ++ rest) ≡ items ++ concat_of rest
  first_whole = joined-append lists rest ∙ ap (λ (xs : List (Result Char Fault)). xs ++ concat_of rest) all

  first_broken : concat_of (take (length (bytes ++ more)) (lists ++ rest)) ≡ items ++ concat_of (take (length more) rest)
  first_broken = grind (arith, length-append, take-append-add, joined-append)

  emitted_first : (ending : SourceEnding) → emitted_by (is_whole ending) (bytes ++ more) (lists ++ rest) ≡ items ++ emitted_by (is_whole ending) more rest
  emitted_first ending = grind (arith, first_whole, first_broken)

-- ---- what a writer writes

module _ (w new : ScoreWriterState) (at : Place) (t : List ℕ) (r : WritesRun w at t new) (headed : w.writer.written.headed ≡ true) where
  run_after : (limits : Limits) (hasher : DefaultHasher) (book : List (List ℕ × List ℕ)) (ending : SourceEnding) (more : List (Result Char Fault))
      → (let h : HeaderStageState = record { limits = limits; progress = after_headers book; book = book; hasher = hasher } in
      let outputs = outputs_of_syllables r.syllables in
      streams_of_items h w ending (items_of at t ++ more)
      ≡ after_bytes (texts_of_outputs w.writer.written outputs) (lines_of_outputs w.writer.written outputs) (streams_of_items h new ending more))
  run_after limits hasher book ending more =
      let h : HeaderStageState = record { limits = limits; progress = after_headers book; book = book; hasher = hasher } in
      let all = items_of at t ++ more in
      ap (λ (b : List (List ℕ × List ℕ)). streams_of w b (head_events_left h ending all)) (past_after limits hasher book all ∙ sym (past_after limits hasher book more))
      ∙ (ap (λ (from_heads : List HeadEvent). streams_of w (book_after h more) from_heads) (inputs_after limits hasher book (placed_characters_from at t) ending more)
      ∙ run_law w at t new r headed (book_after h more) (head_events_left h ending more))

  run_in_body : (limits : Limits) (hasher : DefaultHasher) (progress : HeadProgress) (book : List (List ℕ × List ℕ)) (ending : SourceEnding) (more : List (Result Char Fault)) → IsAfterHeaders progress
      → (let h : HeaderStageState = record { limits = limits; progress = progress; book = book; hasher = hasher } in
      let outputs = outputs_of_syllables r.syllables in
      GoTogether h w → streams_of_items h w ending (items_of at t ++ more)
      ≡ after_bytes (texts_of_outputs w.writer.written outputs) (lines_of_outputs w.writer.written outputs) (streams_of_items h new ending more))
  run_in_body limits hasher (after_headers other) book ending more is together =
      subst (λ (b : List (List ℕ × List ℕ)). let h : HeaderStageState = record { limits = limits; progress = after_headers b; book = book; hasher = hasher } in
      let outputs = outputs_of_syllables r.syllables in
      streams_of_items h w ending (items_of at t ++ more)
      ≡ after_bytes (texts_of_outputs w.writer.written outputs) (lines_of_outputs w.writer.written outputs) (streams_of_items h new ending more))
      (sym together.book) (run_after limits hasher book ending more)
  run_in_body limits hasher _ book ending more is together = absurd is

  run_of_items : (h : HeaderStageState) → IsAfterHeaders h.progress → GoTogether h w → WritesItems h w (items_of at t) h new
  run_of_items h is together = grind (arith, run_in_body)

-- a syllable more is counted
one_counted : (v : Written) (s : PlacedSyllable) → v.headed ≡ true → 1 ≤ (after_output v (Syllable s)).count
one_counted v s headed = rw headed (omega arith)

some_counted : (ss : List PlacedSyllable) (v : Written) → v.headed ≡ true → 1 ≤ v.count → 1 ≤ (after_outputs v (outputs_of_syllables ss)).count
some_counted [] v headed some = some
some_counted (s ∷ ss) v headed some = some_counted ss (after_output v (Syllable s)) headed (one_counted v s headed)

-- if no syllable is counted, none was written
outset_force : (ss : List PlacedSyllable) (v : Written) → v.headed ≡ true → (v.count ≡ 0 → v.force ≡ nothing_in_force) → (after_outputs v (outputs_of_syllables ss)).count ≡ 0
    → (after_outputs v (outputs_of_syllables ss)).force ≡ nothing_in_force
outset_force [] v headed was none = was none
outset_force (s ∷ ss) v headed was none = absurd (let some = some_counted ss (after_output v (Syllable s)) headed (one_counted v s headed) in omega (arith, some, none))

-- ---- what an engine writes

module _ (d e : DecoderState) (h : HeaderStageState) (w new : ScoreWriterState) (text : List ℕ) (r : WritesRun w d.place (chars text) new) (takes : TakesRuns w.writer.written) (skips : SkipsText d text e)
    (step : IsInStep d h w.score w.writer.written) where
  was : RunsInStep d h w.score w.writer.written
  was = step.runs takes.runs

  inside : IsInBody h.progress w.score.part
  inside = in_body h.progress w.score.part w.writer.written.headed takes.headed was.parts

  pub text_taken : GoTogether h w → (more : List ℕ) (ending : SourceEnding)
      → after_bytes w.writer.out.items w.writer.messages.items (streams_of_items h w ending (emitted_by (is_whole ending) (text ++ more) (decoder.events_left d (text ++ more))))
      ≡ after_bytes new.writer.out.items new.writer.messages.items (streams_of_items h new ending (emitted_by (is_whole ending) more (decoder.events_left e more)))
  text_taken together more ending = grind (arith, emitted_first, items_taken, run_of_items, inside)

  pub run_together : GoTogether h w → GoTogether h new
  run_together together = grind (arith, inside)

  -- ---- in step

  still_headed : new.writer.written.headed ≡ true
  still_headed = ap (λ (v : Written). v.headed) (run_counted w d.place (chars text) new r).is ∙ takes.headed

  run_forces : HasForce new.writer.written
  run_forces =
      let force = ap (λ (x : RunWriterState). x.written.force) r.taken in
      let format = ap (λ (v : Written). v.format) (run_counted w d.place (chars text) new r).is in
      record {
        untracked = λ gabc. (let canonical = sym format ∙ gabc in force ∙ (same_force r.syllables w.writer.written canonical ∙ step.force.untracked canonical));
        outset = λ outset. force ∙ outset_force r.syllables w.writer.written takes.headed step.force.outset (sym (ap (λ (x : RunWriterState). x.written.count) r.taken) ∙ outset);
      }

  run_runs : RunsInStep e h new.score new.writer.written
  run_runs =
      let gives = r.gives in
      let v = w.writer.written in
      let written : new.writer.written.count ≡ (with_placed w.score.before r.syllables).syllables =
      ap (λ (x : RunWriterState). x.written.count) r.taken
      ∙ (counted (outputs_of_syllables r.syllables) v w.score.before takes.headed (was.count takes.headed)
      ∙ ap (λ (ss : List PlacedSyllable). (with_placed w.score.before ss).syllables) (syllables_of r.syllables)) in
      let before = was.taken takes.headed in
      record {
        runs = skips.ended ∙ was.runs;
        limit = skips.limit ∙ (was.limit ∙ ap (λ (l : Limits). l.input) (sym gives.limits));
        parts = one_part h.progress new.score.part new.writer.written.headed still_headed inside.after_them (gives.part ∙ inside.body);
        none = λ un. absurd (false≢true (sym un ∙ still_headed));
        count = λ headed. written ∙ sym (ap (λ (p : Preceding). p.syllables) gives.before_held);
        taken = λ headed. omega (arith, before);
        column = skips.reached.column;
        near = omega arith;
        counts = λ within. subst (λ (place : Place). Counts place new.score) (sym skips.place) (gives.counts (was.counts (omega (arith, within))));
      }

  pub run_in_step : IsInStep e h new.score new.writer.written
  run_in_step = record { force = run_forces; runs = λ running. run_runs }

  pub run_reads_on : ReadsHeaders e h new.writer.written
  run_reads_on running = headed_read h.limits h.progress w.score.part w.writer.written.headed e.place new.writer.written.errors takes.headed was.parts

  next_place : (at before : Place) (t : List ℕ) → before ≡ at → next_after at t before ≡ place_past at t
  next_place at before t here = grind arith

  pub run_stays_telling : IsTelling d w → IsTelling e new
  run_stays_telling told running = grind (arith, next_place)
