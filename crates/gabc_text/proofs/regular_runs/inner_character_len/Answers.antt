use Rattle.std.proofs.Common.{refl, sym, ◌∙◌, arith}
use Rattle.gabc_text.proofs.RegularBytes.{beyond_inner, plain_read, pair_read, triple_read}
use Rattle.gabc_text.proofs.regular_runs.inner_character_len.Goals as goal

pub returns-then-is_plain_byte-clause-inner : goal.returns-then-is_plain_byte-clause-inner
returns-then-is_plain_byte-clause-inner c = λ _.
    plain_read c.args.bytes.now _ _ c.byte_at-first.ensures refl c.args.stop (sym c.is_plain_byte.ensures ∙ c.if-is_plain_byte.true)

pub returns-then-is_pair-clause-inner : goal.returns-then-is_pair-clause-inner
returns-then-is_pair-clause-inner c = grind (arith, beyond_inner, pair_read)

pub returns-then-is_triple-clause-inner : goal.returns-then-is_triple-clause-inner
returns-then-is_triple-clause-inner c = grind (arith, beyond_inner, triple_read)
