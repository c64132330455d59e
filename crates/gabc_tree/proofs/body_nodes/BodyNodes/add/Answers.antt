use Rattle.std.proofs.Common.{◌≡◌, ◌++◌, ◌∷◌, [], ℕ, List, map, sym, ap, ◌∙◌, string_bytes}
use Rattle.std.specs.Str.{chars}
use Rattle.gabc_nodes.specs.declared.node.Node.{Node}
use Rattle.gabc_tree.specs.Placed.{moved}
use Rattle.gabc_tree.specs.SyllableNodes.{syllable_nodes}
use Rattle.gabc_tree.specs.machine.BodyNodes.{BodyState, past_syllables}
use Rattle.gabc_tree.specs.machine.NodesOfBodies.{state}
use Rattle.gabc_tree.specs.machine.SyllableSlices.{placed_by}
use Rattle.gabc_tree.proofs.syllables.SlicesOfSyllables.{one_more, past_shown}
use Rattle.gabc_tree.proofs.body_nodes.BodyNodes.add.Goals as goal

moved_after : (base : ℕ) (old new slice made cleared out after : List Node) → cleared ≡ [] → out ≡ cleared ++ made → after ≡ map (moved base) out → slice ≡ after → new ≡ old ++ slice → new ≡ old ++ map (moved base) made
moved_after base old new slice made cleared out after cleared_is out_is after_is slice_is new_is =
    new_is
    ∙ ap (λ (ns : List Node). old ++ ns) (slice_is ∙ after_is)
    ∙ ap (λ (ns : List Node). old ++ map (moved base) ns) (out_is ∙ ap (λ (ns : List Node). ns ++ made) cleared_is)

pub returns-clause-added : goal.returns-clause-added
returns-clause-added c = λ s h.
    let b : BodyState = state c.self.inside.nodes.items (chars (string_bytes c.self.inside.kept)) c.self.inside.base c.self.inside.alterations in
    let p = placed_by c.args.syllable in
    one_more b p c.append.new.nodes.items (chars (string_bytes c.append.new.kept)) c.offset-self-inside.result c.syllable_nodes.new.alterations
    (moved_after b.base b.nodes c.append.new.nodes.items _ (syllable_nodes b.force p) c.clear.new.self.items c.syllable_nodes.new.out.items c.move_all.new.nodes.items c.clear.ensures.items c.in_ok-syllable_nodes.ensures.nodes
    c.move_all.ensures c.as_slice.ensures.value c.in_ok-append.ensures.nodes)
    (c.in_ok-append.ensures.kept)
    c.offset-self-inside.ensures
    c.in_ok-syllable_nodes.ensures.force
    ∙ ap (λ (t : BodyState). past_syllables t (p ∷ [])) c.self.view_is
    ∙ sym (past_shown c.args.self.now c.args.syllable s h)
