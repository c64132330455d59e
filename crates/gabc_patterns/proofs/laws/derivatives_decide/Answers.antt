use Rattle.gabc_patterns.proofs.RowsAfterACharacter.{none_ends}
use Rattle.gabc_patterns.proofs.FunctionsMeetRelations.{snippet_decides, viable_decides}
use Rattle.gabc_patterns.proofs.laws.derivatives_decide.Goals as goal

pub returns : goal.returns
returns g c = record {
  snippet = λ rows h. snippet_decides rows (none_ends rows h);
  viable = λ rows h. viable_decides rows (none_ends rows h);
}
