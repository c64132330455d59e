use Rattle.std.proofs.lemmas.Str.{IsUtf8-string_bytes}
use Rattle.gabc_places.proofs.texts.CharactersOfStrings.{chars-pushed}
use Rattle.gabc_places.proofs.text.Text.push.Goals as goal

pub returns-clause-added : goal.returns-clause-added
returns-clause-added c = chars-pushed c.push.result _ _ _ c.args.c (IsUtf8-string_bytes c.self.inside.string) c.ranges.c.0 c.self.view_is c.push.ensures.bytes
