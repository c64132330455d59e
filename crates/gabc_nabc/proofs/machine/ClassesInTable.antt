-- The table of classes has that of each character below 128.
use Rattle.std.proofs.Common.{◌≡◌, ℕ, ◌<◌, map, get_or, refl, sym, ap, ◌∙◌, arith}
use Rattle.std.specs.List.{range_with_len}
use Rattle.std.proofs.lemmas.List.FromFn.{get_or-map-range_with_len}
use Rattle.gabc_nabc.specs.declared.class.TheConstants.{CLASSES}
use Rattle.gabc_nabc.specs.declared.class.NabcClass.{NabcClass}
use Rattle.gabc_nabc.specs.CharClass.{class_of_character}

in_table : map class_of_character (range_with_len 0 128) ≡ CLASSES
in_table = refl

pub class_in_table : (c : ℕ) (d : NabcClass) → c < 128 → get_or CLASSES c d ≡ class_of_character c
class_in_table c d h = ap (λ l. get_or l c d) (sym in_table) ∙ get_or-map-range_with_len class_of_character 0 128 c c d h (omega arith)
