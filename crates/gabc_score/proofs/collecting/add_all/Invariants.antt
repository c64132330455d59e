use Rattle.std.proofs.Common.{take}
use Rattle.gabc_body.specs.declared.body_result.BodyResult.{BodyResult}
use Rattle.gabc_score.specs.machine.Collected.{IsSaid, result_past_all}
use Rattle.gabc_score.proofs.collecting.add_all.Given as goal

abbrev pub invariant-loop-event : goal.invariant-loop-event
invariant-loop-event g l = record {
  past : (first : g.row.C.Denot) (r : BodyResult) → IsSaid g.C.Give.given first l.initial.taker l.initial.said.findings l.initial.said.fault r
      → IsSaid g.C.Give.given first l.taker l.said.findings l.said.fault (result_past_all l.fn.pair.first l.fn.pair.second r (take l.event-index l.fn.out.items));
}
