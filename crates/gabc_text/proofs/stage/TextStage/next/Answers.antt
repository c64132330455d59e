use Rattle.gabc_text.proofs.resuming.NextPlaceDeterminesKeptPlaces.{is_next}
use Rattle.gabc_text.proofs.stage.TextStage.next.Goals as goal

pub returns-clause-next : goal.returns-clause-next
returns-clause-next c = is_next c.args.self.now
