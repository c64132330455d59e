use Rattle.std.proofs.Common.{List, ℕ, [], Option, Some, length, take, sym, subst, ◌∙◌}
use Rattle.gabc_text.specs.declared.span_mark.SpanMark.{SpanMark}
use Rattle.gabc_text.specs.RegularText.{mark_at, tag_of}
use Rattle.gabc_text.specs.machine.RegularBytes.{IsBegun, nothing_before}
use Rattle.gabc_text.proofs.RegularParts.{nothing_begun}
use Rattle.gabc_text.proofs.RegularRawParts.{mark_is_begun}
use Rattle.gabc_text.proofs.regular.mark_len.Goals as goal

pub returns-in-Some-clause-begun : goal.returns-in-Some-clause-begun
returns-in-Some-clause-begun c =
    let bytes = c.args.bytes.now in
    let mark = c.in-Some.mark in
    let here = sym c.mark_at.ensures ∙ c.in-Some.is in
    subst (λ (t : List ℕ). IsBegun (mark_at bytes) nothing_before (take (length t) bytes)) (sym c.tag.ensures)
    (subst (λ (o : Option SpanMark). IsBegun o nothing_before (take (length (tag_of mark)) bytes)) (sym here) (mark_is_begun bytes (Some mark) here))

pub returns-in-None-clause-begun : goal.returns-in-None-clause-begun
returns-in-None-clause-begun c = subst (λ (o : Option SpanMark). IsBegun o nothing_before []) (sym (sym c.mark_at.ensures ∙ c.in-None.is)) nothing_begun
