use Rattle.std.proofs.Common.{arith}
use Rattle.std.proofs.lemmas.Str.{chars-IsAscii}
use Rattle.gregorio.proofs.MarkEndsHeaders.{mark_ends}
use Rattle.gregorio.proofs.held_headers.read_mark.Goals as goal

pub returns : goal.returns
returns c = grind (arith, mark_ends, chars-IsAscii)
