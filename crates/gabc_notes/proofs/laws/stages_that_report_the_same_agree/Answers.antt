use Rattle.gabc_notes.proofs.resuming.StagesAgree.{told_suffices}
use Rattle.gabc_notes.proofs.laws.stages_that_report_the_same_agree.Goals as goal

pub returns : goal.returns
returns c xs = told_suffices c.args.one.now c.args.other.now xs c.requires
