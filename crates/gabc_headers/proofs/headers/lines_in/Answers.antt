use Rattle.std.proofs.Common.{◌≡◌, Option, ℕ, ap, sym, ◌∙◌, rules, tests, bytes_eq}
use Rattle.std.specs.List.{position}
use Rattle.std.specs.Option.{unwrap_or}
use Rattle.std.proofs.lemmas.Iterator.{YieldsList-from_slice}
use Rattle.std.proofs.lemmas.Iterator.Search.{position_from_yields_List}
use Rattle.gabc_headers.specs.Book.{nabc_values}
use Rattle.gabc_headers.proofs.entries.ValuesOfNabcLines.{lines-chars}
use Rattle.gabc_headers.proofs.headers.lines_in.Goals as goal

pub returns : goal.returns
returns c =
    let found : c.position-lines.result ≡ position (λ known. bytes_eq known c.args.value.now) nabc_values =
    position_from_yields_List (λ known. bytes_eq known.now c.args.value.now) _ _ c.position-lines.result c.position-lines.ensures.ran (YieldsList-from_slice _ c.iter.ensures.rest) (λ x b q k. search (rules, tests)) in
    c.unwrap_or.ensures ∙ ap (λ (o : Option ℕ). unwrap_or o 0) found ∙ sym (lines-chars c.args.value.now c.utf8.value)
