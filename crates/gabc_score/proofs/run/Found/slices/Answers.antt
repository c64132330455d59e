use Rattle.std.proofs.Common.{refl, ap, ◌∙◌}
use Rattle.gabc_body.specs.Canonical.{position_by}
use Rattle.gabc_score.proofs.runs.SlicesOfFound.{cut, slices_spell, syllable_spelled}
use Rattle.gabc_score.proofs.run.Found.slices.Goals as goal

pub split_at-requires : goal.split_at-requires
split_at-requires c = cut c.args.self c.args.lines c.requires

pub returns-clause-is : goal.returns-clause-is
returns-clause-is c = slices_spell c.args.self c.args.lines c.requires _ refl c.split_at.ensures.back refl

pub returns-clause-parts : goal.returns-clause-parts
returns-clause-parts c = λ is. record { spelling = slices_spell c.args.self c.args.lines is _ refl c.split_at.ensures.back refl; parts_are = refl; lines_are = refl }

pub returns-clause-spells : goal.returns-clause-spells
returns-clause-spells c = λ is s h.
    syllable_spelled c.args.self c.args.lines is _ refl c.split_at.ensures.back refl c.args.spans c.args.next_starts
    (c.position_by.ensures ∙ ap (λ b. position_by b c.args.next_starts) c.starts_word.ensures) refl s h
