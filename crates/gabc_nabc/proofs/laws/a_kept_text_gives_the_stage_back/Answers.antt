use Rattle.std.proofs.Common.{refl}
use Rattle.gabc_nabc.proofs.StagesKeep.{gives_back}
use Rattle.gabc_nabc.proofs.laws.a_kept_text_gives_the_stage_back.Goals as goal

pub returns-clause-whole : goal.returns-clause-whole
returns-clause-whole c = λ k more d h. h.whole k more d refl

pub returns-clause-back : goal.returns-clause-back
returns-clause-back c = λ k at h. gives_back c.args.stage.now k at h
