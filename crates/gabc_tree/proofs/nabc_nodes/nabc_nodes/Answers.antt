use Rattle.std.proofs.Common.{◌≤◌, ◌++◌, List, length, append_assoc, sym, ap, ◌∙◌, subst}
use Rattle.std.specs.List.{flat_map}
use Rattle.std.proofs.lemmas.List.Elements.{All-tail}
use Rattle.gabc_nabc.specs.Parts.{AreWithin}
use Rattle.gabc_nabc.specs.declared.descriptor.Descriptor.{Descriptor}
use Rattle.gabc_nodes.specs.declared.node.Node.{Node}
use Rattle.gabc_tree.specs.NabcNodes.{part_nodes}
use Rattle.gabc_tree.proofs.nabc_nodes.nabc_nodes.Goals as goal

pub loop-part-preserved : goal.loop-part-preserved
loop-part-preserved c =
    let base = c.args.base in
    let kept = c.args.kept.now in
    let out = c.loop-part.out.items in
    let part = c.in-Some.part in
    let parts = c.next.new.self in
    let comes = c.in-Some.ensures.steps in
    let later : List Node = flat_map (part_nodes base kept) parts in
    record {
      added = ap (λ (l : List Node). l ++ later) c.in_ok-add_part.ensures
          ∙ (append_assoc out (part_nodes base kept part) later
          ∙ (ap (λ (l : List Descriptor). out ++ flat_map (part_nodes base kept) l) (sym comes) ∙ c.loop-part.invariant.added));
      within = All-tail (λ (part : Descriptor). (part.span.from ≤ part.span.to) × (part.span.to ≤ length kept)) part parts
          (subst (AreWithin kept) comes c.loop-part.invariant.within);
    }
