use Rattle.std.proofs.Common.{sym, ◌∙◌}
use Rattle.gabc_places.proofs.texts.Utf8PrefixIsRead.{prefix-whole, prefix-read, front-whole, front-read, tail-whole, tail-read}
use Rattle.gabc_places.proofs.decode.prefix_and_tail.Goals as goal

pub returns-in-Ok-clause-text : goal.returns-in-Ok-clause-text
returns-in-Ok-clause-text c = let e = c.in-Ok.ensures.cases in rw e.0 (prefix-whole _ e.1)

pub returns-in-Ok-clause-tail : goal.returns-in-Ok-clause-tail
returns-in-Ok-clause-tail c = let e = c.in-Ok.ensures.cases in sym (tail-whole _ e.1)

pub returns-in-None-clause-text : goal.returns-in-None-clause-text
returns-in-None-clause-text c = let e = c.in-Err.ensures in prefix-read _ _ _ (c.valid_up_to.ensures ∙ e.valid_len) c.in-Ok-from_utf8.ensures.cases.0

pub returns-in-None-clause-tail : goal.returns-in-None-clause-tail
returns-in-None-clause-tail c = let e = c.in-Err.ensures in sym (tail-read _ _ _ e.cases.1.short e.valid_len (c.in-None.ensures ∙ e.fault))

pub returns-in-Some-clause-text : goal.returns-in-Some-clause-text
returns-in-Some-clause-text c = let e = c.in-Err.ensures in prefix-read _ _ _ (c.valid_up_to.ensures ∙ e.valid_len) c.in-Ok-from_utf8.ensures.cases.0

pub returns-in-Some-clause-tail : goal.returns-in-Some-clause-tail
returns-in-Some-clause-tail c = let e = c.in-Err.ensures in sym (tail-read _ _ _ e.cases.1.short e.valid_len (c.in-Some.ensures ∙ e.fault))

pub returns-in-Ok-clause-front : goal.returns-in-Ok-clause-front
returns-in-Ok-clause-front c = front-whole _ _ c.in-Ok.ensures.cases.0

pub returns-in-None-clause-front : goal.returns-in-None-clause-front
returns-in-None-clause-front c = front-read _ _ _ c.in-Ok-from_utf8.ensures.cases.0

pub returns-in-Some-clause-front : goal.returns-in-Some-clause-front
returns-in-Some-clause-front c = front-read _ _ _ c.in-Ok-from_utf8.ensures.cases.0
