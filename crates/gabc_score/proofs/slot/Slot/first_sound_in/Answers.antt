use Rattle.std.proofs.Common.{sym}
use Rattle.gabc_body.proofs.gathering.FirstKinds.{none_in_empty}
use Rattle.gabc_score.proofs.slot.Slot.first_sound_in.Goals as goal

pub returns-then-span : goal.returns-then-span
returns-then-span c = sym (none_in_empty c.args.span c.args.self.now.reading.kept c.if-span.true)
