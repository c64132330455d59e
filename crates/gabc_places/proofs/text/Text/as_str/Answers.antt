use Rattle.std.proofs.Common.{sym, ap, ◌∙◌, encode_utf8_all}
use Rattle.std.specs.Str.{chars}
use Rattle.std.proofs.lemmas.Str.{encodes-chars, IsUtf8-string_bytes}
use Rattle.gabc_places.proofs.text.Text.as_str.Goals as goal

pub returns-clause-bytes : goal.returns-clause-bytes
returns-clause-bytes c = c.as_str.ensures.value ∙ sym (encodes-chars _ (IsUtf8-string_bytes c.self.inside.string)) ∙ ap encode_utf8_all c.self.view_is

pub returns-clause-characters : goal.returns-clause-characters
returns-clause-characters c = ap chars c.as_str.ensures.value ∙ c.self.view_is
