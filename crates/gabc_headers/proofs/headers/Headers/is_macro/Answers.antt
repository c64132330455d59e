use Rattle.std.proofs.Common.{arith}
use Rattle.std.proofs.lemmas.Bool.{lt-ltb}
use Rattle.gabc_headers.proofs.entries.TextsAsBytes.{chars-macro}
use Rattle.gabc_headers.proofs.headers.Headers.is_macro.Goals as goal
use Rattle.gabc_headers.proofs.collecting.HeadsWithinLimits.{found_same}

pub returns-then-digit-lt10 : goal.returns-then-digit-lt10
returns-then-digit-lt10 c = grind (arith, lt-ltb, found_same, chars-macro)
