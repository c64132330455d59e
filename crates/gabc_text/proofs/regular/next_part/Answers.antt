use Rattle.std.proofs.Common.{arith}
use Rattle.std.proofs.lemmas.List.{length-take-le}
use Rattle.gabc_text.proofs.RegularParts.{plain_part}
use Rattle.gabc_text.proofs.printing.PrintedPiecesAreJoined.{apart_none}
use Rattle.gabc_text.specs.machine.RegularBytes.{in_style}
use Rattle.gabc_text.proofs.regular.next_part.Goals as goal

pub returns-clause-part : goal.returns-clause-part
returns-clause-part c = plain_part _ c.run_len-len.ensures.run (omega (arith, c.if-len-eq0.false, length-take-le c.run_len-len.result c.args.bytes.now c.run_len-len.ensures.within))

pub returns-clause-apart : goal.returns-clause-apart
returns-clause-apart c = apart_none (in_style c.args.last)
