use Rattle.std.proofs.Common.{◌≡◌, ◌<◌, ◌^◌}
use Rattle.gabc_headers.specs.Book.{macros_below}
use Rattle.gabc_headers.proofs.headers.Headers.macros.Given as goal

abbrev pub invariant-loop-digit : goal.invariant-loop-digit
invariant-loop-digit l = record {
  macros : l.macros ≡ macros_below l.self l.digit;
  bit : l.bit ≡ 2 ^ l.digit;
  below : l.macros < l.bit;
}
