use Rattle.std.proofs.Common.{Err, ap, refl, arith}
use Rattle.gregorio_state.specs.Fields.{fields_of, score_of}
use Rattle.gregorio.proofs.ScoresAreJudged.{fields_alike, of_fields_alike}
use Rattle.gregorio.proofs.judging.is_score_read.Goals as goal

pub set_down-requires : goal.set_down-requires
set_down-requires c = grind (arith, fields_alike)

pub returns-in-Ok-clause-read : goal.returns-in-Ok-clause-read
returns-in-Ok-clause-read c =
    let both = of_fields_alike c.one_syllable_keeps_no_more_than_its_text.ensures (fields_of c.args.state.now) c.args.state.now.limits c.limits_of_texts-limits.result (score_of c.args.fields.now) c.requires c.limits_of_texts-limits.ensures in
    (λ yes. both.0 c.in-Ok.ensures.read, λ read. refl)

pub returns-in-Err-K1-clause-read : goal.returns-in-Err-K1-clause-read
returns-in-Err-K1-clause-read c =
    let both = of_fields_alike c.one_syllable_keeps_no_more_than_its_text.ensures (fields_of c.args.state.now) c.args.state.now.limits c.limits_of_texts-limits.result (score_of c.args.fields.now) c.requires c.limits_of_texts-limits.ensures in
    (λ no. cc, λ read. absurd (c.in-Err-K1.ensures.refused (ap Err c.in-Err-K1.field-0-is) (both.1 read)))
