use Rattle.std.proofs.Common.{refl}
use Rattle.gabc_score.proofs.score_events.PartsFollow.{outside}
use Rattle.gabc_score.proofs.machine_laws.a_stage_may_stand_so.Goals as goal

pub returns-in-Body : goal.returns-in-Body
returns-in-Body c = record { machine = c.args.machine.now; shows = refl; rests = c.requires; few = λ body. c.at_most_one_is_held.ensures }

pub returns-in-Heads : goal.returns-in-Heads
returns-in-Heads c = record { machine = c.args.machine.now; shows = refl; rests = c.requires; few = λ body. absurd (outside c.args.machine.now.part c.in-Heads.is body) }
