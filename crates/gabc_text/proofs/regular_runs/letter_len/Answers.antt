use Rattle.std.proofs.Common.{sym, ◌∙◌, arith}
use Rattle.gabc_text.proofs.RegularBytes.{beyond_word, one_read, escape_read, pair_read, triple_read}
use Rattle.gabc_text.proofs.regular_runs.letter_len.Goals as goal

pub returns-then-is_letter_byte-clause-letter : goal.returns-then-is_letter_byte-clause-letter
returns-then-is_letter_byte-clause-letter c = grind (arith, one_read)

pub returns-then-is_escape-clause-letter : goal.returns-then-is_escape-clause-letter
returns-then-is_escape-clause-letter c = grind (arith, escape_read)

pub returns-then-is_pair-clause-letter : goal.returns-then-is_pair-clause-letter
returns-then-is_pair-clause-letter c = λ _.
    beyond_word _ (pair_read c.args.bytes.now _ _ c.byte_at-first.ensures c.byte_at-second.ensures (sym c.is_pair.ensures ∙ c.if-is_pair.true))

pub returns-then-is_triple-clause-letter : goal.returns-then-is_triple-clause-letter
returns-then-is_triple-clause-letter c = λ _.
    beyond_word _ (triple_read c.args.bytes.now _ _ c.byte_at-first.ensures c.byte_at-second.ensures _ c.byte_at-third.ensures (sym c.is_triple.ensures ∙ c.if-is_triple.true))
