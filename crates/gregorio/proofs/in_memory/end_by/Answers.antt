use Rattle.std.proofs.Common.{◌≡◌, [], append-nil, arith, ap, subst, sym, ◌∙◌}
use Rattle.gregorio.specs.Engine.{RunsJob, fault_of, with_waiting}
use Rattle.gregorio.specs.Streams.{Streams, ended_with}
use Rattle.gregorio.specs.declared.source_ending.SourceEnding.{SourceEnding}
use Rattle.gregorio.specs.witness.Engine.{EngineState, streams_left}
use Rattle.gregorio_jobs.specs.declared.job.Status.{Status}
use Rattle.gregorio.proofs.InputsArePut.{runs_where_taken}
use Rattle.gregorio.proofs.in_memory.end_by.Goals.{in-Whole, in-Broken}
use Rattle.gregorio.proofs.in_memory.end_by.Goals as goal

moved : (old mid new : EngineState) (e f : SourceEnding) (s t : Status) → e ≡ f → mid ≡ new → s ≡ t → streams_left old f [] ≡ with_waiting new (ended_with t (fault_of new)) → streams_left old e [] ≡ with_waiting mid (ended_with s (fault_of mid))
moved old mid new e f s t ending engine status law = rw (ending, engine, status) law

pub returns : goal.returns
returns g c =
    let mid = c.match-ending.engine in
    let law : streams_left c.args.engine.now c.args.ending [] ≡ with_waiting mid (ended_with c.match-ending.status (fault_of mid)) =
    elim c.match-ending.branch [
      | in-Whole w ↦ moved c.args.engine.now mid _ _ _ _ _ w.in-Whole.is w.engine-is w.status-is w.end-status.ensures.law
      | in-Broken w ↦ moved c.args.engine.now mid _ _ _ _ _ w.in-Broken.is w.engine-is w.status-is w.broken-status.ensures.law
    ] in
    record {
      out = c.put_waiting.ensures.out ∙ ap (g.O.Put.taken c.args.out.now) (sym (append-nil mid.output) ∙ sym (ap (λ (s : Streams). s.output) law));
      messages = c.put_waiting.ensures.messages ∙ ap (g.M.Put.taken c.args.messages.now) (sym (append-nil mid.messages) ∙ sym (ap (λ (s : Streams). s.messages) law));
      ends = sym (ap (λ (s : Streams). s.status) law);
      fault = grind arith;
      job = λ job limits runs.
          let ended : RunsJob job limits c.match-ending.engine =
          elim c.match-ending.branch [
            | in-Whole w ↦ subst (RunsJob job limits) (sym w.engine-is) (w.end-status.ensures.job job limits runs)
            | in-Broken w ↦ subst (RunsJob job limits) (sym w.engine-is) (w.broken-status.ensures.job job limits runs)
          ] in
          runs_where_taken c.match-ending.engine c.put_waiting.new.engine job limits c.put_waiting.ensures.forgets ended;
      waits = grind arith;
      over = grind arith;
      last = grind arith;
      hasher = grind arith;
    }
