-- A writer of scores writes an event and the end of what comes, by what its stage gave.
use Rattle.std.proofs.Common.{◌≡◌, ℕ, ◌+◌, ◌*◌, ◌≤◌, List, [], ◌∷◌, ◌++◌, Bool, true, false, Some, IsSome, length, refl, sym, ap, ◌∙◌, subst, append-nil, arith}
use Rattle.gabc_places.specs.BoundedList.{BoundedList, Fits}
use Rattle.gabc_places.specs.StageLaw.{concat_of, StopsAtEnd}
use Rattle.gabc_places.specs.declared.limits.Limits.{Limits}
use Rattle.gabc_headers.specs.declared.head_event.HeadEvent.{HeadEvent}
use Rattle.gabc_score.specs.declared.score_event.BorrowedSyllable.TheVariants.{First}
use Rattle.gabc_score.specs.declared.score_event.ScoreEvent.{ScoreEvent}
use Rattle.gabc_score.specs.declared.score_machine.ScorePart.TheVariants as score_part
use Rattle.gabc_body.specs.ScoreEvents.{ScoreOutput, Found, Stop, Syllable, End}
use Rattle.gabc_score.specs.ScoreStage.{GivesAt, GivesLast, GivesOutputs, events_left, is_last_event}
use Rattle.gabc_score.specs.witness.ScoreStage.{ScoreStageState, left_of}
use Rattle.gabc_score.proofs.score_events.OutputsOfLentSyllables.{then_more}
use Rattle.gregorio.specs.declared.run_ending.RunEnding.{RunEnding}
use Rattle.gregorio.specs.witness.Engine.{Written, after_output, after_outputs, ceased_ending, ceased_text, ended_by, lines_of_outputs, streams_in, texts_of_outputs}
use Rattle.gregorio.specs.machine.InStep.{TakesEvent}
use Rattle.gregorio.specs.machine.RunWriter.{RunWriterState, HasRoomFor, IsInRoom, last_room, line_room, lines_room, past_end, past_outputs, syllable_room, texts_room}
use Rattle.gregorio.specs.machine.ScoreWriter.{ScoreWriterState, FitsEvents, IsSilent, KeepsJobAndRooms, WritesLast, event_room, needed_in, outputs_of_events}
use Rattle.gregorio.proofs.PassedInHeads.{passed_in_heads}
use Rattle.gregorio.proofs.OutputsOfEvents.{as_many_emitted, emitted_is, ends_at_last, nothing_left}
use Rattle.gregorio.proofs.RoomForAnEvent.{event_has_room, event_in_room, lines_within, needed_for, nothing_over, one_within, room_after}
use Rattle.gregorio.proofs.StreamsOfOutputs.{EndsAtLast, headed_stays, job_stays}
use Rattle.gabc_places.proofs.NothingAfterAnEnd.{both_empty}
use Rattle.gregorio.proofs.pieces.WriterKeepsPaceWithScore.{steady_past}

-- ---- the outputs

-- what a call emitted into an emptied room is the outputs that it gave
outs_are : (outputs : List ScoreOutput) (r old new : BoundedList ScoreEvent) (events : List ScoreEvent) (s : ScoreStageState) → old ≡ record r { items = [] } → events ≡ new.items → GivesOutputs outputs old new s.first s.second
    → outputs_of_events s events ≡ outputs
outs_are outputs r old new events s empty is emitted = grind (arith, emitted_is)

-- after a stop or the end the stage gives nothing
ends_where_emitted : (outputs : List ScoreOutput) (old new : BoundedList ScoreEvent) (s : ScoreStageState) → GivesOutputs outputs old new s.first s.second
    → StopsAtEnd is_last_event (events_left s) old new → EndsAtLast (IsSilent s) outputs
ends_where_emitted outputs old new s emitted stops = ends_at_last (events_left s) old new stops (λ none xs. nothing_left s xs none) First [] outputs emitted.events

-- if a run is over after these, it was over before, or they end it
over_by_last : (P : Type 0) (w : Written) (outputs : List ScoreOutput) → EndsAtLast P outputs → (IsSome w.ended → P) → IsSome (after_outputs w outputs).ended → P
over_by_last P w [] ends before over = before over
over_by_last P w (Found f ∷ outputs) ends before over = over_by_last P (after_output w (Found f)) outputs ends before over
over_by_last P w (Stop fault ∷ outputs) ends before over = ends.1
over_by_last P w (Syllable s ∷ outputs) ends before over = over_by_last P (after_output w (Syllable s)) outputs ends before over
over_by_last P w (End ∷ outputs) ends before over = ends.1

-- ---- an event

-- A writer of this stage and these bytes shows `now`. Its stage emitted `events` into an emptied
-- room.
module _ (score mid : ScoreStageState) (writer : RunWriterState) (now : ScoreWriterState) (view : record { score = score; writer = writer } ≡ now) (x : HeadEvent)
    (r cleared filled : BoundedList ScoreEvent) (empty : cleared ≡ record r { items = [] }) (events : List ScoreEvent) (are : events ≡ filled.items)
    (step : GivesAt score x mid cleared filled) (stops : StopsAtEnd is_last_event (events_left mid) cleared filled) where
  abbrev old : ScoreWriterState
  old = record { score = score; writer = writer }

  ends : EndsAtLast (IsSilent mid) step.outputs
  ends = ends_where_emitted step.outputs cleared filled mid step.emitted stops

  few : length step.outputs ≤ 16
  few = omega (arith, step.emitted.few, as_many_emitted First step.outputs)

  emitted : outputs_of_events mid events ≡ step.outputs
  emitted = outs_are step.outputs r cleared filled events mid empty are step.emitted

  -- what holds of the outputs under the limits of the stage holds of the events
  of_events : (P : Limits → List ScoreOutput → Type 0) → P score.limits step.outputs → P mid.limits (outputs_of_events mid events)
  of_events P h = subst (λ (limits : Limits). P limits (outputs_of_events mid events)) (sym step.limits) (subst (P score.limits) (sym emitted) h)

  none : old.score.part ≡ score_part.Over → step.outputs ≡ []
  none = nothing_over score (x ∷ []) step.outputs (left_of mid []) (step.law [])

  pub room_for_event : FitsEvents now false (x ∷ []) → HasRoomFor mid.limits writer (outputs_of_events mid events)
  room_for_event room =
      of_events (λ limits outputs. HasRoomFor limits writer outputs)
      (event_has_room (IsSilent mid) old x step.outputs (subst (λ (s : ScoreWriterState). FitsEvents s false (x ∷ [])) (sym view) room) step.lends few ends none)

  module _ (new : RunWriterState) (writes : new ≡ past_outputs writer (outputs_of_events mid events)) where
    new_is : new ≡ past_outputs writer step.outputs
    new_is = writes ∙ ap (past_outputs writer) emitted

    pub event_is_taken : TakesEvent now.score now.writer x (record { score = mid; writer = new })
    event_is_taken = subst (λ (s : ScoreWriterState). TakesEvent s.score s.writer x (record { score = mid; writer = new })) view (record {
      passes = record {
        outputs = step.outputs;
        few = step.lends.few;
        part = step.part;
        last = step.last;
        before_held = step.before_held;
        counts = step.counts;
        whole = step.whole;
        written = ap (λ (v : RunWriterState). v.written) new_is;
        in_heads = λ heads. passed_in_heads score x step.outputs (left_of mid []) heads (step.law []);
        tells = record { limits = step.limits; next = step.next; told = step.told; holds = step.holds; line = step.line; front = step.front };
      };
      law = step.law;
      writer = new_is;
    })

    -- if the run is over, the stage gives nothing more
    pub silent_after : (IsSome writer.written.ended → IsSilent score) → IsSome new.written.ended → IsSilent mid
    silent_after before over =
        over_by_last (IsSilent mid) writer.written step.outputs ends
        (λ some xs. (both_empty step.outputs (concat_of (left_of mid xs)) (sym (ap (λ (lists : List (List ScoreOutput)). concat_of lists) (step.law xs)) ∙ before some (x ∷ xs))).1)
        (subst (λ (v : RunWriterState). IsSome v.written.ended) new_is over)

    pub event_keeps_room : ((lines texts : ℕ) → IsInRoom mid.limits lines texts writer (outputs_of_events mid events) → IsInRoom mid.limits lines texts new [])
        → (last : Bool) (more : List HeadEvent) → FitsEvents now last (x ∷ more) → FitsEvents (record { score = mid; writer = new }) last more
    event_keeps_room kept last more room =
        let lines = length writer.messages.items + 16 * line_room writer.written.name in
        let texts = length writer.out.items + needed_in score.part (event_room writer.written.format score.limits.syllable x) in
        let fits = subst (λ (s : ScoreWriterState). FitsEvents s last (x ∷ more)) (sym view) room in
        let before = of_events (λ limits outputs. IsInRoom limits lines texts writer outputs) (event_in_room (IsSilent mid) old x step.outputs step.lends few ends none) in
        let after = subst (λ (limits : Limits). IsInRoom limits lines texts new []) step.limits (kept lines texts before) in
        room_after old (record { score = mid; writer = new }) x step.outputs last more
        (steady_past old (record { score = mid; writer = new }) writer step.outputs (record { limits = step.limits; format = refl; name = refl; all_warnings = refl; out = refl; messages = refl }) new_is)
        (ap (λ (v : RunWriterState). v.written.headed) new_is ∙ headed_stays writer.written step.outputs) step.part step.last after fits

-- ---- the end of what comes

module _ (score mid : ScoreStageState) (writer : RunWriterState) (now : ScoreWriterState) (view : record { score = score; writer = writer } ≡ now)
    (r cleared filled : BoundedList ScoreEvent) (empty : cleared ≡ record r { items = [] }) (events : List ScoreEvent) (are : events ≡ filled.items)
    (step : GivesLast score mid cleared filled) (stops : StopsAtEnd is_last_event (events_left mid) cleared filled) (room : FitsEvents now true []) where
  emitted_last : outputs_of_events mid events ≡ step.outputs
  emitted_last = outs_are step.outputs r cleared filled events mid empty are step.emitted

  fits_last : FitsEvents (record { score = score; writer = writer }) true []
  fits_last = subst (λ (s : ScoreWriterState). FitsEvents s true []) (sym view) room

  abbrev most_lines : ℕ
  most_lines = length writer.messages.items + lines_room writer.written.name step.outputs

  abbrev most_texts : ℕ
  most_texts = length writer.out.items + texts_room writer.written.format score.limits.syllable step.outputs

  in_room : (lines texts : ℕ) → most_lines ≤ lines → most_texts ≤ texts → IsInRoom mid.limits lines texts writer (outputs_of_events mid events)
  in_room lines texts more_lines more_texts = grind (arith, emitted_last)

  -- room is left for the last text after them
  texts_fit : most_texts + last_room ≤ writer.out.limit
  texts_fit =
      let format = writer.written.format in
      let limit = score.limits.syllable in
      let few = step.lends.few in
      let within = one_within (IsSilent mid) format limit step.outputs few step.lends.later (ends_where_emitted step.outputs cleared filled mid step.emitted stops) in
      let needed = needed_for format limit score.part (syllable_room format limit + last_room) step.outputs (nothing_over score [] step.outputs [] step.law) within in
      omega (arith, fits_last.texts, needed)

  pub room_for_last : HasRoomFor mid.limits writer (outputs_of_events mid events)
  room_for_last =
      let texts = texts_fit in
      let few : length step.outputs ≤ 16 = omega (arith, step.emitted.few, as_many_emitted First step.outputs) in
      in_room writer.messages.limit writer.out.limit (omega (arith, fits_last.lines, lines_within writer.written.name step.outputs few)) (omega (arith, texts))

  pub room_for_end : (new : RunWriterState) → new ≡ past_outputs writer (outputs_of_events mid events)
      → ((lines texts : ℕ) → IsInRoom mid.limits lines texts writer (outputs_of_events mid events) → IsInRoom mid.limits lines texts new []) → Fits new.out last_room
  room_for_end new writes kept =
      let texts = texts_fit in
      let limit = ap (λ (v : RunWriterState). v.out.limit) writes in
      let after = (kept most_lines most_texts (in_room most_lines most_texts (omega arith) (omega arith))).texts in
      omega (arith, after, texts, limit)

  pub last_is_written : (new : RunWriterState) (how : RunEnding) → new ≡ past_end (past_outputs writer (outputs_of_events mid events)) → new.written.ended ≡ Some how
      → WritesLast now (record { score = mid; writer = new }) how
  last_is_written new how writes ended =
      let w = writer.written in
      let v = after_outputs w step.outputs in
      let texts = texts_of_outputs w step.outputs in
      let lines = lines_of_outputs w step.outputs in
      let last = ceased_text v.ended v in
      let is = writes ∙ ap (λ (outputs : List ScoreOutput). past_end (past_outputs writer outputs)) emitted_last in
      let ending_is : Some (ceased_ending v.ended) ≡ Some how = sym (ap (λ (u : RunWriterState). u.written.ended) is) ∙ ended in
      subst (λ (s : ScoreWriterState). WritesLast s (record { score = mid; writer = new }) how) view (record {
        output = texts ++ last;
        lines = lines;
        out = then_more writer.out (past_outputs writer step.outputs).out new.out texts last refl (ap (λ (u : RunWriterState). u.out) is);
        messages = ap (λ (u : RunWriterState). u.messages) is;
        law = λ book.
            ap (λ (lists : List (List ScoreOutput)). streams_in w (concat_of lists)) step.law
            ∙ (ap (λ (outputs : List ScoreOutput). streams_in w outputs) (append-nil step.outputs)
            ∙ (ap (λ (h : RunEnding). record (ended_by h) { output = texts ++ last; messages = lines ++ [] }) (cc ending_is)
            ∙ ap (λ (text : List ℕ). record (ended_by how) { output = text; messages = lines ++ [] }) (sym (append-nil (texts ++ last)))));
      })

  pub last_is_steady : (new : RunWriterState) → new ≡ past_end (past_outputs writer (outputs_of_events mid events)) → KeepsJobAndRooms now (record { score = mid; writer = new })
  last_is_steady new writes = grind (arith, job_stays)
