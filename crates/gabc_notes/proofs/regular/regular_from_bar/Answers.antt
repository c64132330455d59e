use Rattle.std.proofs.Common.{◌∙◌, sym, get_or, refl}
use Rattle.gabc_notes.proofs.machine.RegularFronts.{bar_known, known_alone}
use Rattle.gabc_notes.proofs.regular.regular_from_bar.Goals as goal

pub returns-then-is_mark : goal.returns-then-is_mark
returns-then-is_mark c =
    let same = c.as_bytes-bytes.ensures.value in
    known_alone c.args.text.now c.bar_len-bar.result c.utf8.text (rw (same) at c.bar_len-bar.ensures.within) _ (bar_known _ (rw (same) at c.bar_len-bar.ensures.bar))
    (get_or c.args.text.now c.bar_len-bar.result 0) (rw (same) at c.if-bar-bytes.true) refl (rw (same) at (sym c.is_mark.ensures ∙ c.if-is_mark.true))
