use Rattle.std.proofs.Common.{refl}
use Rattle.gabc_notes.specs.machine.StageAfter.{fresh_stage}
use Rattle.gabc_notes.proofs.machine.FreshStageEmitsEventsByPoint.{fresh_says}
use Rattle.gabc_notes.proofs.resuming.StagesKeep.{fresh_keeps}
use Rattle.gabc_notes.proofs.resuming.StagesTake.{cut_at_opener, takes}
use Rattle.gabc_notes.proofs.laws.a_stage_takes_each_character.Goals as goal

pub returns-clause-fresh : goal.returns-clause-fresh
returns-clause-fresh c = λ split macros. record {
  stage = fresh_stage split macros;
  emits = fresh_says split macros;
  keeps = fresh_keeps split macros;
  opens_nothing = refl;
  outside = refl;
}

pub returns-clause-takes : goal.returns-clause-takes
returns-clause-takes c = takes

pub returns-clause-cut : goal.returns-clause-cut
returns-clause-cut c = cut_at_opener
