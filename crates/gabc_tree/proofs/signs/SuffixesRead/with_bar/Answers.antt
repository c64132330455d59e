use Rattle.std.proofs.Common.{◌<◌, arith}
use Rattle.gabc_tree.proofs.SuffixesStepByStep.{bar_before_bars}
use Rattle.gabc_tree.proofs.signs.SuffixesRead.with_bar.Goals as goal

pub returns : goal.returns
returns c =
    let some : 0 < c.args.self.run = omega arith in
    bar_before_bars c.args.self c.args.later.now c.with.result c.min-run.result c.requires some c.min-run.ensures c.with.ensures
