use Rattle.std.proofs.Common.{◌≡◌, ◌++◌}
use Rattle.std.specs.Prelude.{drop}
use Rattle.gabc_tree.specs.SyllableNodes.{notes_nodes, force_after}
use Rattle.gabc_tree.proofs.syllable_nodes.add_notes.Given as goal

abbrev pub invariant-loop-snippet : goal.invariant-loop-snippet
invariant-loop-snippet l = record {
  nodes : l.out.items ++ notes_nodes l.alterations l.kept (drop l.snippet-index l.snippets) ≡ l.initial.out.items ++ notes_nodes l.initial.alterations l.kept l.snippets;
  force : force_after l.alterations l.kept (drop l.snippet-index l.snippets) ≡ force_after l.initial.alterations l.kept l.snippets;
}
