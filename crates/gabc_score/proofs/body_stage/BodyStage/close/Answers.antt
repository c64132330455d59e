use Rattle.gabc_score.proofs.building.CountsOfParts.{text_fits}
use Rattle.gabc_score.proofs.building.SyllableEndsLast.{texts_close_last}
use Rattle.gabc_score.proofs.body_stage.BodyStage.close.Goals as goal

pub returns-in-Text-clause-once : goal.returns-in-Text-clause-once
returns-in-Text-clause-once c = texts_close_last c.finish_part.new.events.items

pub returns-in-Text-clause-fit : goal.returns-in-Text-clause-fit
returns-in-Text-clause-fit c = rw (← c.self.view_is, c.in-Text.is) (text_fits c.in-Text.stage c.finish_part.new.events.items c.finish_part.ensures.finishes.few)
