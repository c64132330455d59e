use Rattle.std.proofs.lemmas.Str.{IsUtf8-string_bytes}
use Rattle.gabc_places.proofs.texts.CharactersOfStrings.{chars-added}
use Rattle.gabc_places.proofs.text.Text.push_str.Goals as goal

pub returns : goal.returns
returns c = chars-added c.push_str.result _ _ _ _ (IsUtf8-string_bytes c.self.inside.string) c.self.view_is c.push_str.ensures.bytes
