use Rattle.gabc_notes.proofs.items_of_text.OnePitch.{alone_in, before_pitch_in}
use Rattle.gabc_notes.proofs.items.begins_with_one_pitch.Goals as goal

pub returns-in-len1 : goal.returns-in-len1
returns-in-len1 c = λ is utf8. alone_in c.args.text.now c.in-len1.len_at_least c.in-len1.len_below (c.is_pitch_from.ensures is) utf8

pub returns-then-is_pitch_from : goal.returns-then-is_pitch_from
returns-then-is_pitch_from c = λ is utf8. before_pitch_in c.args.text.now c.in-len2-up.len_at_least (c.is_pitch_from-in-len2-up.ensures c.if-is_pitch_from.true) (c.is_pitch_from-then-is_pitch_from.ensures is) utf8
