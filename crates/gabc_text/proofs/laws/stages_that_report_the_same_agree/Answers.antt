use Rattle.gabc_text.proofs.resuming.ReportDeterminesOutput.{told_suffices}
use Rattle.gabc_text.proofs.laws.stages_that_report_the_same_agree.Goals as goal

pub returns : goal.returns
returns c t = told_suffices c.args.one.now c.args.other.now t c.requires
