use Rattle.std.proofs.Common.{sym, ◌∙◌, arith}
use Rattle.gabc_notes.proofs.items_of_text.OnePitch.{signed_alone_in, signed_before_pitch_in}
use Rattle.gabc_notes.proofs.items.begins_with_signed_pitch.Goals as goal

pub returns-in-len2 : goal.returns-in-len2
returns-in-len2 c = λ is utf8. signed_alone_in c.args.text.now c.in-len2.len_at_least c.in-len2.len_below (c.is_pitch_from.ensures is) (sym c.is_sign.ensures ∙ c.if-is_sign.true) utf8

pub returns-then-is_pitch_from : goal.returns-then-is_pitch_from
returns-then-is_pitch_from c = grind (arith, signed_before_pitch_in)
