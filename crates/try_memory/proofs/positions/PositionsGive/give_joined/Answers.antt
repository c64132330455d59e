use Rattle.std.proofs.Common.{◌≡◌, ◌++◌, List, append-nil, map, subst, sym}
use Rattle.gabc_body.specs.Syllable.{PlacedSyllable}
use Rattle.gabc_score.proofs.runs.NoneIsJoined.{nothing_joined}
use Rattle.try_memory.proofs.positions.PositionsGive.give_joined.Goals as goal

pub returns : goal.returns
returns c = λ joined is.
    subst (λ (ss : List PlacedSyllable). c.args.self.now ≡ c.args.self.now ++ map (λ (s : PlacedSyllable). s.position) ss)
    (sym (nothing_joined c.args._starts c.args._text.now c.args._count c.requires joined is)) (sym (append-nil c.args.self.now))
