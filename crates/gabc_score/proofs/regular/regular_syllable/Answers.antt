use Rattle.std.proofs.Common.{◌<◌, ◌∙◌, sym, arith}
use Rattle.std.proofs.lemmas.List.{take_rest}
use Rattle.gabc_score.proofs.regular_syllables.BytesOfRegularSyllables.{notes_cut, syllable_here}
use Rattle.gabc_score.proofs.regular_syllables.PlainBytes.{plain_front}
use Rattle.gabc_score.proofs.regular.regular_syllable.Goals as goal

pub range_from-requires : goal.range_from-requires
range_from-requires c = λ some.
    let found = rw (c.as_bytes-bytes.ensures.value) at c.in-Some-eq40.ensures.lookup in
    notes_cut c.args.lines c.args.text.now c.gap_len-gap.result c.regular_text.result c.utf8.text
    (rw (c.as_bytes-bytes.ensures.value) at c.gap_len-gap.ensures.within)
    (rw (c.as_bytes-bytes.ensures.value) at c.gap_len-gap.ensures.gap)
    (rw (c.as_bytes-bytes.ensures.value, take_rest) at c.regular_text.ensures.text)
    (rw (c.as_bytes-bytes.ensures.value, take_rest) at c.regular_text.ensures.regular)
    found.3.0 (sym (found.3.1 0) ∙ c.in-Some-eq40.field-0-test)

pub are_plain-requires : goal.are_plain-requires
are_plain-requires c = rw (c.as_bytes-bytes.ensures.value) (plain_front c.args.text.now c.args.plain _ c.requires)

pub returns : goal.returns
returns c =
    let found = rw (c.as_bytes-bytes.ensures.value) at c.in-Some-eq40.ensures.lookup in
    let some : 0 < c.snippets_len-notes.result = omega (arith, c.if-notes-eq0.false) in
    syllable_here c.args.lines c.args.text.now c.gap_len-gap.result c.regular_text.result c.utf8.text
    (rw (c.as_bytes-bytes.ensures.value) at c.gap_len-gap.ensures.within)
    (rw (c.as_bytes-bytes.ensures.value) at c.gap_len-gap.ensures.gap)
    (rw (c.as_bytes-bytes.ensures.value, take_rest) at c.regular_text.ensures.text)
    (rw (c.as_bytes-bytes.ensures.value, take_rest) at c.regular_text.ensures.regular)
    found.3.0 (sym (found.3.1 0) ∙ c.in-Some-eq40.field-0-test) c.snippets_len-notes.result
    (rw (c.range_from.ensures.value) at c.snippets_len-notes.ensures some)
    (rw (c.as_bytes-bytes.ensures.value) at c.are_plain.ensures c.if-not-are_plain.false)
    (rw (c.as_bytes-bytes.ensures.value, take_rest) at c.regular_text.ensures.mark)
