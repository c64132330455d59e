use Rattle.std.proofs.Common.{arith}
use Rattle.gabc_score.proofs.keeping.KeptIsKeptAgain.{told_is_kept_again, told_is_short}
use Rattle.gabc_score.proofs.kept_laws.what_is_reported_is_kept_again.Goals as goal

pub returns-clause-again : goal.returns-clause-again
returns-clause-again c = λ s t openers comment scalar can tells.
    let short = told_is_short s t openers comment can tells in
    let most = s.limits.in_range.syllable_most in
    (c.a_text_is_kept_again_by_kept.ensures s.body.nabc_lines s.body.macros t openers comment scalar (omega (arith, short, most))).0
    (told_is_kept_again s t openers comment can tells c.laws_of_stages.ensures c.a_text_is_read_from_its_beginning.ensures)

pub returns-clause-short : goal.returns-clause-short
returns-clause-short c = told_is_short
