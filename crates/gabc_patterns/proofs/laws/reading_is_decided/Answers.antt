use Rattle.gabc_patterns.proofs.RowsAfterACharacter.{none_ends}
use Rattle.gabc_patterns.proofs.ReadDecides.{read_decides, goes_to}
use Rattle.gabc_patterns.proofs.laws.reading_is_decided.Goals as goal

pub returns : goal.returns
returns g c = record {
  snippet = λ rows h. read_decides rows (none_ends rows h);
  viable = λ rows h. goes_to rows (none_ends rows h);
}
