-- The longest part that begins a text, by its bytes, is what the definition says.
use Rattle.std.specs.Prelude.{Bool}
use Rattle.std.proofs.Common.{◌≡◌, ℕ, List, Option, sym, ◌∙◌, arith}
use Rattle.std.specs.Str.{chars}
use Rattle.gabc_patterns.specs.Function.{longest_item}
use Rattle.gabc_patterns.specs.Items.{ItemSpan}
use Rattle.gabc_patterns.proofs.FirstItemByBytes.{BestByBytes, in_bytes as span_in_bytes}
use Rattle.gabc_patterns.proofs.ItemHere.{IsFound}
use Rattle.gabc_patterns.proofs.ItemsOneByOne.{longest_is}
use Rattle.gabc_nabc.specs.Table.{nabc}
use Rattle.gabc_nabc.specs.machine.Parts.{first_part_of}
use Rattle.gabc_nabc.proofs.grammar.LawsOfEvents.{kinds_are_one}

-- what is found, by its bytes
pub best_found : (text : List ℕ) (best : Option (Bool × ℕ)) → BestByBytes nabc text best → best ≡ first_part_of text
best_found text best h =
    h.bytes ∙ go h.longest h.here.found h.here.same (sym (longest_is nabc kinds_are_one (chars text) h.here.found h.here.is_best))
  where
    go : (o : Option (ItemSpan Bool)) (f : Option (Bool × ℕ)) → IsFound 0 o f → f ≡ longest_item nabc (chars text) → span_in_bytes (chars text) o ≡ first_part_of text
    go o f s e = grind arith
