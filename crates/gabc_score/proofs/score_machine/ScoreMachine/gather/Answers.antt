use Rattle.std.proofs.Common.{arith}
use Rattle.gabc_score.proofs.building.CountsOfParts.{counts_go_on}
use Rattle.gabc_score.proofs.building.EventsOfSnippets.{few_events}
use Rattle.gabc_score.proofs.building.SyllableEndsLast.{closes_last}
use Rattle.gabc_score.proofs.score_machine.ScoreMachine.gather.Goals as goal

pub hold-requires : goal.hold-requires
hold-requires c = grind (arith, counts_go_on, few_events, closes_last)
