use Rattle.std.proofs.Common.{◌∙◌, sym, get_or, refl}
use Rattle.gabc_notes.proofs.machine.RegularFronts.{front_known, known_alone}
use Rattle.gabc_notes.proofs.regular.regular_notes.Goals as goal

pub returns-then-is_mark : goal.returns-then-is_mark
returns-then-is_mark c =
    let same = c.as_bytes-bytes.ensures.value in
    known_alone c.args.text.now c.front_len-front.result c.utf8.text (rw (same) at c.front_len-front.ensures.within) _ (front_known _ (rw (same) at c.front_len-front.ensures.front))
    (get_or c.args.text.now c.front_len-front.result 0) (rw (same) at c.if-front-bytes.true) refl (rw (same) at (sym c.is_mark.ensures ∙ c.if-is_mark.true))
