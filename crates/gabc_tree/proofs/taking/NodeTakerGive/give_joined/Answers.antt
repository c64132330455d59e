use Rattle.std.proofs.Common.{◌≡◌, List, subst, sym}
use Rattle.gabc_body.specs.Syllable.{PlacedSyllable}
use Rattle.gabc_score.proofs.runs.NoneIsJoined.{nothing_joined}
use Rattle.gabc_tree.specs.machine.BodyNodes.{past_syllables}
use Rattle.gabc_tree.specs.machine.NodesOfBodies.{past_none}
use Rattle.gabc_tree.proofs.taking.NodeTakerGive.give_joined.Goals as goal

pub returns : goal.returns
returns c = λ joined is.
    subst (λ (ss : List PlacedSyllable). c.args.self.now ≡ past_syllables c.args.self.now ss)
    (sym (nothing_joined c.args._starts c.args._text.now c.args._count c.requires joined is)) (sym (past_none c.args.self.now))
