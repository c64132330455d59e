use Rattle.std.proofs.Common.{refl}
use Rattle.gabc_patterns.proofs.ReadDecides.{read_decides}
use Rattle.gabc_nabc.specs.Table.{nabc}
use Rattle.gabc_nabc.proofs.by_kept.NabcViable.{viable_decides}
use Rattle.gabc_nabc.proofs.grammar.LawsOfEvents.{kinds_are_one}
use Rattle.gabc_nabc.proofs.laws.nabc_is_decided.Goals as goal

pub returns : goal.returns
returns c = record { snippet = read_decides nabc refl kinds_are_one; viable = viable_decides }
