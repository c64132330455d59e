use Rattle.std.proofs.Common.{◌∙◌, sym}
use Rattle.gabc_notes.proofs.by_kept.SoundsHaveLetters.{without_letters}
use Rattle.gabc_notes.proofs.items.first_note_or_clef.Goals as goal

pub returns-then-not-may_sound : goal.returns-then-not-may_sound
returns-then-not-may_sound c = sym (without_letters c.args.kept.now (sym c.may_sound.ensures ∙ c.if-not-may_sound.true))
