use Rattle.std.proofs.Common.{ap, ◌∙◌, string_bytes, subst, IsUtf8}
use Rattle.std.proofs.lemmas.Str.{chars-append}
use Rattle.std.specs.Str.{chars}
use Rattle.gabc_tree.proofs.body_nodes.append.Goals as goal

pub returns-clause-kept : goal.returns-clause-kept
returns-clause-kept c = ap chars c.in_default.ensures.bytes ∙ chars-append (string_bytes c.args.kept.now) c.args.text.now (subst IsUtf8 c.as_str.ensures.value c.as_str.utf8)
