use Rattle.std.proofs.Common.{◌≡◌, ◌++◌, append-nil, ap, subst, sym}
use Rattle.gabc_score.proofs.runs.NoneIsJoined.{nothing_joined}
use Rattle.gabc_score.proofs.whole.WholeSyllablesGive.give_joined.Goals as goal

pub returns : goal.returns
returns c = λ joined is.
    subst (λ ss. c.args.self.now ≡ record c.args.self.now { syllables = c.args.self.now.syllables ++ ss })
    (sym (nothing_joined c.args._starts c.args._text.now c.args._count c.requires joined is))
    (ap (λ ss. record c.args.self.now { syllables = ss }) (sym (append-nil c.args.self.now.syllables)))
