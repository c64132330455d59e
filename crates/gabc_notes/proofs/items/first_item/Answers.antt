use Rattle.std.proofs.Common.{◌≡◌, ℕ, List, [], length, eqb-true, ap, refl, sym, ◌∙◌}
use Rattle.std.specs.Str.{chars}
use Rattle.std.proofs.lemmas.List.{nil_from_length}
use Rattle.std.proofs.lemmas.Str.{chars-encodes}
use Rattle.gabc_patterns.specs.Function.{longest_item}
use Rattle.gabc_notes.specs.Table.{gabc}
use Rattle.gabc_notes.proofs.items.first_item.Goals as goal

pub returns-then-is_empty-clause-none : goal.returns-then-is_empty-clause-none
returns-then-is_empty-clause-none c =
    let none : c.args.text.now ≡ [] = nil_from_length c.args.text.now (eqb-true (length c.args.text.now) 0 (sym c.is_empty.ensures ∙ c.if-is_empty.true)) in
    ap (λ (t : List ℕ). longest_item gabc (chars t)) none ∙ ap (longest_item gabc) (chars-encodes [] refl)
