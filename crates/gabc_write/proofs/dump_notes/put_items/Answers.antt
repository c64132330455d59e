use Rattle.std.proofs.Common.{◌≡◌, ◌≤◌, ℕ, List, [], ◌∷◌, ◌++◌, false, refl, length, reverse, map, sym, ap, ◌∙◌, subst, arith}
use Rattle.std.proofs.lemmas.List.Elements.{All-tail}
use Rattle.gabc_notes.specs.Items.{items_of, AreWithin}
use Rattle.gabc_notes.specs.declared.item.Item.{Item}
use Rattle.gabc_neumes.specs.InForce.{InForce, step_of, in_force_after}
use Rattle.gabc_write.specs.DumpOfNotes.{in_force_at, lines_after}
use Rattle.gabc_write.specs.declared.dump_notes.ItemPlace.{ItemPlace}
use Rattle.gabc_write.specs.machine.NoteLines.{lines_at}
use Rattle.gabc_write.proofs.ItemsLineByLine.{Stands, stands_first, step, one_more, all_passed}
use Rattle.gabc_write.proofs.dump_notes.put_items.Goals as goal

pub loop-item-init : goal.loop-item-init
loop-item-init g c =
    let kept = c.args.kept.now in
    let start : ItemPlace = record { in_element = false; left = 0 } in
    let same : c.items_in-items.result ≡ items_of kept = c.items_in-items.ensures.items in (
      [],
      subst (λ (items : List Item). Stands kept [] items start) (sym same) (stands_first kept (items_of kept)),
      ap (λ (items : List Item). g.S.Put.taken c.args.out.now (lines_after c.args.alterations.now kept [] items)) same,
      refl,
      sym same,
      subst (AreWithin kept) (sym same) c.items_in-items.ensures.within,
    )

pub put_at-place-requires-clause-within : goal.put_at-place-requires-clause-within
put_at-place-requires-clause-within g c = subst (AreWithin c.args.kept.now) c.in-Some.ensures.steps c.loop-item.invariant.5

pub loop-item-preserved : goal.loop-item-preserved
loop-item-preserved g c =
    let kept = c.args.kept.now in
    let outset = c.args.alterations.now in
    let h = c.loop-item.invariant in
    let before = h.0 in
    let i = c.in-Some.item in
    let items = c.next.new.self in
    let place = c.loop-item.place in
    let comes = c.in-Some.ensures.steps in
    let now : InForce = in_force_at outset kept before in
    let later : List ℕ = lines_after outset kept (i ∷ before) items in
    let t = step c.glyphs_are_computed.ensures outset kept before items i place (subst (λ (l : List Item). Stands kept before l place) comes h.1) in (
      i ∷ before,
      subst (Stands kept (i ∷ before) items) (sym c.put_at-place.ensures.place) t.stands,
      ap (λ o. g.S.Put.taken o later) (c.put_at-place.ensures.lines ∙ ap (λ (f : InForce). g.S.Put.taken c.loop-item.out (lines_at f kept place i items)) h.3)
          ∙ (g.met.S.Put.taken_both c.loop-item.out (lines_at now kept place i items) later
          ∙ (ap (g.S.Put.taken c.loop-item.out) (t.lines ∙ ap (lines_after outset kept before) (sym comes)) ∙ h.2)),
      c.put_at-place.ensures.alterations
          ∙ (ap (λ (f : InForce). in_force_after f (step_of kept i ∷ [])) h.3 ∙ c.steps_are_passed_one_by_one.ensures.back outset (map (step_of kept) before) (step_of kept i ∷ [])),
      h.4 ∙ (ap (λ (l : List Item). reverse before ++ l) comes ∙ one_more before items i),
      All-tail (λ (j : Item). (j.span.from ≤ j.span.to) × (j.span.to ≤ length kept)) i items (subst (AreWithin kept) comes h.5),
    )

pub returns-clause-alterations : goal.returns-clause-alterations
returns-clause-alterations g c = grind (arith, all_passed)
