use Rattle.std.proofs.Common.{◌∷◌, [], ap, ◌∙◌}
use Rattle.gabc_body.specs.Syllable.{placed_of}
use Rattle.gabc_tree.specs.machine.BodyNodes.{BodyState, past_syllables}
use Rattle.gabc_tree.proofs.taking.NodeTakerCollect.collect.Goals as goal

pub returns-clause-given : goal.returns-clause-given
returns-clause-given c =
    let s = placed_of c.args.syllable.now in
    c.in_ok-add.ensures.added s c.of.ensures ∙ ap (λ (b : BodyState). past_syllables b (s ∷ [])) c.self.view_is
