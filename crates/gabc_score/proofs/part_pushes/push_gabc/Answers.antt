use Rattle.std.proofs.Common.{rules, ap}
use Rattle.gabc_body.specs.Events.{is_next, is_close}
use Rattle.gabc_score.proofs.building.SyllableEndsLast.{next_ends, close_ends, pushed_last}
use Rattle.gabc_score.proofs.part_pushes.push_gabc.Goals as goal

pub returns-clause-next_once : goal.returns-clause-next_once
returns-clause-next_once c =
    pushed_last is_next _ next_ends c.clear.new.self c.push.new.out (ap (λ r. r.items) c.clear.ensures)
    (ap (λ r. r.limit) c.push.ensures.events.out) c.push.ensures.end

pub returns-clause-bounds : goal.returns-clause-bounds
returns-clause-bounds c = record {
  few = search rules;
  once = pushed_last is_close _ close_ends c.clear.new.self c.push.new.out (ap (λ r. r.items) c.clear.ensures)
      (ap (λ r. r.limit) c.push.ensures.events.out) c.push.ensures.end;
}
