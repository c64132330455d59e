use Rattle.std.proofs.Common.{append_assoc, arith}
use Rattle.gabc_headers.proofs.collecting.HeadsWithinLimits.{found_same}
use Rattle.gabc_headers.proofs.canonical_form.HeadersEndInTwoPercents.{heads_len}
use Rattle.gabc_headers.proofs.entries.TextsAsBytes.{chars-name}
use Rattle.gabc_headers.proofs.header_stage.emit_heads.Goals as goal
use Rattle.gabc_headers.proofs.header_stage.emit_heads.Goals.{then-is_none, else-is_none}

pub returns : goal.returns
returns c = grind (arith, found_same, chars-name, heads_len, append_assoc)
