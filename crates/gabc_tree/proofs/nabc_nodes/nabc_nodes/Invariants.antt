use Rattle.std.proofs.Common.{◌≡◌, ◌++◌}
use Rattle.std.specs.List.{flat_map}
use Rattle.gabc_nabc.specs.Parts.{parts_of, AreWithin}
use Rattle.gabc_tree.specs.NabcNodes.{part_nodes}
use Rattle.gabc_tree.proofs.nabc_nodes.nabc_nodes.Given as goal

-- with the nodes of what is left, all nodes will have been added
abbrev pub invariant-loop-part : goal.invariant-loop-part
invariant-loop-part l = record {
  added : l.out.items ++ flat_map (part_nodes l.base l.kept) l.part-iterator ≡ l.initial.out.items ++ flat_map (part_nodes l.base l.kept) (parts_of l.kept);
  within : AreWithin l.kept l.part-iterator;
}
