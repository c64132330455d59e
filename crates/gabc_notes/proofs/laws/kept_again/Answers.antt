use Rattle.gabc_notes.proofs.grammar.SnippetIsReadAgain.{read_again, kept_is_snippet}
use Rattle.gabc_notes.proofs.laws.kept_again.Goals as goal

pub returns : goal.returns
returns c = record { snippet = read_again; kept = kept_is_snippet }
