use Rattle.std.proofs.Common.{arith}
use Rattle.gabc_write.proofs.DumpOfHeadersIsShort.{heads_short}
use Rattle.gabc_write.proofs.dump.dump_header.Goals as goal

pub loop-name-preserved : goal.loop-name-preserved
loop-name-preserved g c = grind arith

pub returns-clause-short : goal.returns-clause-short
returns-clause-short g c = heads_short c.args.headers
