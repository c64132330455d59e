-- The names of codes after the first, as they are put.
use Rattle.std.specs.Prelude.{ℕ, List, ◌++◌, codes}
use Rattle.std.specs.List.{flat_map}
use Rattle.gabc_nabc.specs.declared.code.GlyphCode.{GlyphCode}
use Rattle.gabc_write.specs.DumpOfNabc.{name_of_code}

-- the names, each with a `!` before it
abbrev pub names_after : List GlyphCode → List ℕ
names_after after = flat_map (λ c. codes "!" ++ name_of_code c) after
