use Rattle.gabc_body.proofs.holding.SpansBetweenCharacters.{all_whole}
use Rattle.gabc_body.specs.Holding.{lines_of}
use Rattle.gabc_body.specs.witness.EmittedScore.{emitted_score}
use Rattle.gabc_body.proofs.laws.snippets_stand_between_characters.Goals as goal

pub returns : goal.returns
returns c = λ limits ending t l. all_whole t (lines_of (emitted_score limits ending t)) (emitted_score limits ending t).syllables (c.a_syllable_holds_its_parts.ensures.held limits ending t l)
