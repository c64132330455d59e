use Rattle.std.proofs.Common.{ℕ, ap, ◌∙◌}
use Rattle.gabc_score.specs.RegularSyllable.{SyllableParts, with_lines}
use Rattle.gabc_score.specs.machine.Run.{sounds_among}
use Rattle.gabc_score.proofs.run.Found.sounds.Goals as goal

pub returns : goal.returns
returns c = λ is.
    let by = c.slices.ensures.parts is in
    c.sounds.ensures by.spelling
    ∙ ap (λ (r : SyllableParts). sounds_among (with_lines c.slices.result.lines 0 r.nexts r.final)) by.parts_are
    ∙ ap (λ (n : ℕ). sounds_among (with_lines n 0 is.syllable.nexts is.syllable.final)) by.lines_are
