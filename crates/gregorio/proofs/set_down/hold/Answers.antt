use Rattle.gregorio_state.specs.Fields.{score_of}
use Rattle.gregorio.proofs.setting_down.PendingTextIsReadIfItRoundTrips.{has_the_text, is_read, some_text}
use Rattle.gregorio.proofs.set_down.hold.Goals as goal

pub returns-clause-read : goal.returns-clause-read
returns-clause-read c =
    let f = score_of c.args.fields.now in
    let old = c.args.stage.now in
    let new = c.hold_again.new.self in
    let holds = c.hold_again.ensures.held c.if-not-hold_again.false in
    let some = some_text f.held c.if-is_empty.ensures in (
      λ same _. is_read f old c.requires.stands.stands new holds (c.is_held_text.ensures.0 same),
      λ read. c.is_held_text.ensures.1 (has_the_text f old c.requires.stands.stands new holds c.a_text_is_one_syllable.ensures (read some)),
    )
