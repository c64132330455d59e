use Rattle.std.proofs.Common.{ap}
use Rattle.gabc_body.specs.Events.{is_text_end}
use Rattle.gabc_score.proofs.building.SyllableEndsLast.{text_end_ends, pushed_last}
use Rattle.gabc_score.proofs.part_pushes.push_text.Goals as goal

pub returns-clause-once : goal.returns-clause-once
returns-clause-once c =
    pushed_last is_text_end _ text_end_ends c.clear.new.self c.push.new.out (ap (λ r. r.items) c.clear.ensures)
    (ap (λ r. r.limit) c.push.ensures.events.out) c.push.ensures.end
