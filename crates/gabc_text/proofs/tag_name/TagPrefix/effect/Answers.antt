use Rattle.std.proofs.Common.{sym, ◌∙◌}
use Rattle.gabc_text.proofs.machine.TagNameByCharacter.{effect-named}
use Rattle.gabc_text.proofs.tag_name.TagPrefix.effect.Goals as goal

pub returns : goal.returns
returns c = c.effect_among.ensures ∙ sym (effect-named c.args.self.now)
