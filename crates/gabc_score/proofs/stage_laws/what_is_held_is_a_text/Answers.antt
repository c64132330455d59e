use Rattle.gabc_score.proofs.score_events.PendingSyllableIsText.{held_is_text}
use Rattle.gabc_score.proofs.stage_laws.what_is_held_is_a_text.Goals as goal

pub returns : goal.returns
returns c = λ s stands told.
    held_is_text c.the_canonical_text_of_a_unit_is_a_text.ensures.text s.body.nabc_lines s.before s.part s.held.gathered.made (λ body. (told body).held) (c.what_is_held_holds_a_unit.ensures s stands)
