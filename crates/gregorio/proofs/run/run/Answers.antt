use Rattle.std.proofs.Common.{arith}
use Rattle.gregorio.proofs.RunsByOutcome.{is_run_cut_early, is_run_cut_late, is_run_whole}
use Rattle.gregorio.proofs.run.run.Goals as goal

pub returns-in_default : goal.returns-in_default
returns-in_default g c = grind (arith, is_run_cut_early)

pub returns-in-Ok-send_waiting : goal.returns-in-Ok-send_waiting
returns-in-Ok-send_waiting g c = record {
  runs = λ job all.
      is_run_whole g.O.Sink.written g.O.Sink.calls g.M.Sink.written g.M.Sink.calls g.S.Source.remaining g.S.Source.calls job c.args.limits _ _ _ _ _ _ _ _ c.args.engine.now c.feed_source.new.engine c.end_by-status.new.engine _ _ all c.in-Ok.ensures.fed c.end_by-status.ensures c.in-Ok-send_waiting.ensures.all;
}

pub returns-in-Err : goal.returns-in-Err
returns-in-Err g c = record {
  runs = λ job all.
      is_run_cut_late g.O.Sink.written g.O.Sink.calls g.M.Sink.written g.M.Sink.calls g.S.Source.remaining g.S.Source.calls job c.args.limits _ _ _ _ _ _ _ _ c.args.engine.now c.feed_source.new.engine c.end_by-status.new.engine _ _ all c.in-Ok.ensures.fed c.end_by-status.ensures c.in-Err.ensures.cut;
}
