use Rattle.std.proofs.Common.{◌∙◌, ap, sym}
use Rattle.std.specs.Str.{chars}
use Rattle.std.specs.Str.Iter.{chars_rest}
use Rattle.std.proofs.lemmas.Str.{chars_past_char}
use Rattle.gabc_tree.specs.NotKept.{but_first}
use Rattle.gabc_tree.proofs.not_kept.past_first.Goals as goal

pub returns-in-Some : goal.returns-in-Some
returns-in-Some c =
    let past = chars_past_char c.args.kept.now (chars_rest c.next.new.self) c.in-Some.field-0 c.utf8.kept (sym c.chars-rest.ensures.rest ∙ c.in-Some.ensures.steps.0) in
    ap chars c.as_str.ensures ∙ ap but_first (sym past)
