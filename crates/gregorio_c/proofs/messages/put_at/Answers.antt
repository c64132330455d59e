use Rattle.gregorio_c.proofs.MessagesAreFilled.{set_fills}
use Rattle.gregorio_c.proofs.messages.put_at.Goals as goal

pub returns-then-at-buf-clause-buf : goal.returns-then-at-buf-clause-buf
returns-then-at-buf-clause-buf c = set_fills c.args.buf.now c.args.at c.args.message c.if-at-buf.true
