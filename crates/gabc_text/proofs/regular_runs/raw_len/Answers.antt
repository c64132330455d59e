use Rattle.std.proofs.Common.{◌∙◌}
use Rattle.gabc_text.proofs.RegularRawParts.{raw_word}
use Rattle.gabc_text.proofs.regular_runs.raw_len.Goals as goal

pub returns-clause-word : goal.returns-clause-word
returns-clause-word c = λ more.
    raw_word c.in-Some.raw _ _ _ (c.as_bytes.ensures.value ∙ c.raw_tags.ensures.opening) (c.as_bytes-2.ensures.value ∙ c.raw_tags.ensures.closing)
    (c.bracketed_len.ensures.bracketed more)
