use Rattle.std.proofs.Common.{refl}
use Rattle.gabc_score.proofs.regular_syllables.SlicesAreRead.{first_cut, gives_next, next_cut, none_come, some_come}
use Rattle.gabc_score.proofs.spelled.SpelledSnippets.next.Goals as goal

pub returns-then-self-clause-next : goal.returns-then-self-clause-next
returns-then-self-clause-next c = λ texts h. none_come c.args.self.now texts h c.if-self.true

pub split_at-requires : goal.split_at-requires
split_at-requires c =
    let come = some_come c.args.self.now c.requires.0 c.requires.1 c.if-self.false in
    rw (c.next_len-len.ensures come.0 come.1.0 come.1.1) (first_cut c.args.self.now come.0 come.1.0 come.1.1)

pub split_at-requires-2 : goal.split_at-requires-2
split_at-requires-2 c =
    let come = some_come c.args.self.now c.requires.0 c.requires.1 c.if-self.false in
    rw (c.next_len-len.ensures come.0 come.1.0 come.1.1) (next_cut c.args.self.now come.0 come.1.0 come.1.1)

pub returns-clause-next : goal.returns-clause-next
returns-clause-next c = λ texts h.
    gives_next c.args.self.now c.next_len-len.result c.next_len-len.ensures _ refl c.next_line-self.ensures c.split_at-2.ensures.back
    (rw (c.as_bytes.ensures.value) refl) _ c.split_at.ensures.front texts h c.if-self.false
