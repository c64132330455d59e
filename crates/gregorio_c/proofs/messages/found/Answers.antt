use Rattle.std.proofs.Common.{◌∙◌, ap, refl, sym}
use Rattle.gabc_headers.specs.TooLong.{is_stopped_too_long}
use Rattle.gregorio.specs.declared.outcome.Outcome.{Outcome}
use Rattle.gregorio.specs.declared.source_ending.SourceEnding.TheVariants.{Whole}
use Rattle.gregorio.specs.Outcome.{outcome_of}
use Rattle.gregorio_c.specs.machine.Found.{without_syllables}
use Rattle.gregorio_c.proofs.FoundByParts.{whole_is_found}
use Rattle.gregorio_c.proofs.messages.found.Goals as goal

pub returns-then-is_too_long : goal.returns-then-is_too_long
returns-then-is_too_long c = whole_is_found c.default-usual.result c.default-usual.ensures c.args.score.now c.found_in-then-is_too_long.result c.found_in-then-is_too_long.ensures

pub returns : goal.returns
returns c =
    let usual = c.default-usual.result in
    let small = c.small_limits in
    let made = c.in_ok-outcome.ensures in
    let short = ap (λ (o : Outcome). is_stopped_too_long o.score.fault) (sym made) ∙ (sym c.is_too_long.ensures ∙ c.if-is_too_long.false) in
    record {
      outcome = outcome_of usual Whole c.args.score.now;
      of = record { limits = usual; usual = c.default-usual.ensures; is = refl };
      is = made ∙ ap without_syllables (sym (c.larger_limits_change_nothing.ensures small.result usual Whole c.args.score.now small.ensures.no_less small.ensures.input short));
    }
