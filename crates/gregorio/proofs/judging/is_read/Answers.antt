use Rattle.std.proofs.Common.{ap, refl}
use Rattle.gregorio_state.specs.Fields.{InHeaders, InScore, fields_of, phase_of, score_of}
use Rattle.gregorio.proofs.StatesAreJudged.{all_judged}
use Rattle.gregorio.proofs.judging.is_read.Goals as goal

pub returns-in-Headers-clause-read : goal.returns-in-Headers-clause-read
returns-in-Headers-clause-read c =
    all_judged (fields_of c.args.state.now) c.args.state.now.limits (record { header = refl; syllable = refl; input = refl }) (InHeaders c.in-Headers.text.now) (record { fields = c.requires.fields; phase_is = ap phase_of c.in-Headers.is }) c.are_headers_read.result c.are_headers_read.ensures.read

pub returns-in-Score-clause-read : goal.returns-in-Score-clause-read
returns-in-Score-clause-read c =
    all_judged (fields_of c.args.state.now) c.args.state.now.limits (record { header = refl; syllable = refl; input = refl }) (InScore (score_of c.in-Score.fields)) (record { fields = c.requires.fields; phase_is = ap phase_of c.in-Score.is }) c.is_score_read.result c.is_score_read.ensures.read
