use Rattle.std.proofs.Common.{◌∙◌, arith, sym}
use Rattle.gabc_score.proofs.regular_syllables.BytesOfRegularSyllables.{no_snippets, begun_cut, more_snippets, last_snippet}
use Rattle.gabc_score.proofs.regular.snippets_len.Goals as goal

pub loop-begun-init : goal.loop-begun-init
loop-begun-init c = record { same = c.as_bytes-bytes.ensures.value; before = no_snippets c.args.lines c.args.text.now }

pub range_from-requires : goal.range_from-requires
range_from-requires c = λ some. begun_cut c.args.lines c.args.text.now c.loop-begun.begun c.loop-begun.line c.utf8.text c.loop-begun.invariant.before

pub returns-in-Some-eq41 : goal.returns-in-Some-eq41
returns-in-Some-eq41 c = λ some.
    let found = rw (c.as_bytes-bytes.ensures.value) at c.in-Some-eq41.ensures.lookup in
    last_snippet c.args.lines c.args.text.now c.loop-begun.begun c.loop-begun.line c.snippet_len.result c.utf8.text c.loop-begun.invariant.before
    (rw (c.range_from.ensures.value) at c.snippet_len.ensures.within) (rw (c.range_from.ensures.value) at c.snippet_len.ensures.is)
    found.3.0 (sym (found.3.1 0) ∙ c.in-Some-eq41.field-0-test)

pub loop-begun-preserved : goal.loop-begun-preserved
loop-begun-preserved c = grind (arith, more_snippets)
