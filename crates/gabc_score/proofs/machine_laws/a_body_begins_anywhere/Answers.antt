use Rattle.gabc_score.proofs.resuming.BeginsAnywhere.{left_anywhere}
use Rattle.gabc_score.proofs.machine_laws.a_body_begins_anywhere.Goals as goal

pub returns : goal.returns
returns c = λ place xs. left_anywhere c.args.machine.now c.requires.front.front c.requires.front.none_before place c.args.machine.now.part c.requires.rests c.requires.front.none_held xs
