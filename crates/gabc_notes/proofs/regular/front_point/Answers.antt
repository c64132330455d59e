use Rattle.std.proofs.Common.{ap, sym, ◌∙◌, ◌-◌, arith, false, get_or, take}
use Rattle.gabc_notes.specs.machine.Regular.{front_state, reading_at}
use Rattle.gabc_notes.specs.declared.state.ItemState.{ItemState}
use Rattle.gabc_notes.proofs.machine.RegularFronts.{front_item, in_item, last_item}
use Rattle.gabc_notes.proofs.regular.front_point.Goals as goal

pub returns-else-len-eq0 : goal.returns-else-len-eq0
returns-else-len-eq0 c =
    ap (λ (s : ItemState). reading_at (record { item = s; fused = false })) c.item_at.ensures
    ∙ (front_item (get_or c.args.bytes.now (c.args.len - 1) 0)
    ∙ (ap in_item (sym (last_item c.args.bytes.now (c.args.len - 1) (omega (arith, c.if-len-eq0.false, c.requires))))
    ∙ ap (λ n. front_state (take n c.args.bytes.now)) (omega (arith, c.if-len-eq0.false))))
