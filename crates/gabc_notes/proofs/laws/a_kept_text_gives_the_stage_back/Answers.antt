use Rattle.gabc_notes.proofs.resuming.KeptTextGivesStage.{gives_back}
use Rattle.gabc_notes.proofs.laws.a_kept_text_gives_the_stage_back.Goals as goal

pub returns : goal.returns
returns c = λ split macros k at h o xs. gives_back split macros at c.args.stage.now k h o xs
