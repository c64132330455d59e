use Rattle.gabc_text.proofs.tokens.TokensByBytes.{tokens_lie_in, tokens_few}
use Rattle.gabc_text.proofs.token_reader.tokens_in.Goals as goal

pub returns-clause-within : goal.returns-clause-within
returns-clause-within c = tokens_lie_in c.args.text.now c.utf8.text

pub returns-clause-few : goal.returns-clause-few
returns-clause-few c = tokens_few c.args.text.now c.utf8.text
