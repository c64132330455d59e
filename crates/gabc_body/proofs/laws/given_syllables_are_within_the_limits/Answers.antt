use Rattle.std.proofs.Common.{length, encode_utf8_all, sym, subst, ◌∙◌}
use Rattle.gabc_headers.specs.Canonical.{canonical_heads}
use Rattle.gabc_body.specs.WithinLimits.{AreWithin}
use Rattle.gabc_body.proofs.score_events.PlainScores.{alike}
use Rattle.gabc_body.proofs.within_limits.GivenAreWithin.{given_are_within}
use Rattle.gabc_body.proofs.laws.given_syllables_are_within_the_limits.Goals as goal

pub returns : goal.returns
returns c limits ending t book b =
    let a = alike limits ending t in
    subst (AreWithin limits (length (encode_utf8_all (canonical_heads book)))) (sym a.syllables)
    (given_are_within c.a_text_ends_once.ensures c.canonical_lines_are_within_the_limits.ensures limits ending t book (sym a.book ∙ b))
