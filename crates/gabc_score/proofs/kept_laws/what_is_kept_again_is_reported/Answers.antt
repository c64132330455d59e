use Rattle.std.proofs.Common.{arith}
use Rattle.gabc_score.proofs.keeping.KeptAgainIsReported.{is_reported}
use Rattle.gabc_score.proofs.kept_laws.what_is_kept_again_is_reported.Goals as goal

pub returns : goal.returns
returns c limits lines macros t openers comment scalar again short =
    let most = limits.in_range.syllable_most in
    is_reported c.laws_of_stages.ensures c.a_text_is_read_from_its_beginning.ensures limits lines macros t openers comment
    ((c.a_text_is_kept_again_by_kept.ensures lines macros t openers comment scalar (omega (arith, short, most))).1 again) short
