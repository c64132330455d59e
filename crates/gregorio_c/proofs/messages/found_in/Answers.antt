use Rattle.std.proofs.Common.{◌∙◌, refl}
use Rattle.gabc_body.specs.Score.{score_of}
use Rattle.gregorio_c.proofs.FoundByParts.{found_by_parts}
use Rattle.gregorio_c.proofs.messages.found_in.Goals as goal

pub returns : goal.returns
returns c =
    let decoded = c.in_ok-decoded.decoded in
    let ending = c.ending_of-ending in
    let says = c.in_ok-rest.ensures in
    c.outcome_by.ensures
    ∙ found_by_parts c.args.limits c.args.score.now decoded ending.result c.in_ok-rest.rest (score_of c.args.limits ending.result decoded.text) c.in_ok-decoded.ensures ending.ensures refl
    says.book says.findings says.fault
