-- The lines of an NABC snippet in a dump.
use Rattle.std.specs.Prelude.{ℕ, List, [], ◌∷◌, ◌++◌, Option, Some, None, codes, encode_utf8_all, if◌then◌else◌}
use Rattle.std.specs.List.{flat_map}
use Rattle.std.specs.Fmt.{decimal}
use Rattle.gabc_nabc.specs.Codes.{codes_of}
use Rattle.gabc_nabc.specs.Names.{name_by}
use Rattle.gabc_nabc.specs.Parts.{parts_of, bytes_of}
use Rattle.gabc_nabc.specs.declared.code.GlyphCode.{GlyphCode}
use Rattle.gabc_nabc.specs.declared.descriptor.Descriptor.{Descriptor}
use Rattle.gabc_write.specs.DumpLines.{escaped}
use Rattle.gabc_write.specs.DumpOfNotes.{last_text}

-- a code without a name in the table is its own name
abbrev pub name_or_letters : Option (List ℕ) → GlyphCode → List ℕ
name_or_letters (Some name) c = name
name_or_letters None c = encode_utf8_all (c.first ∷ c.second ∷ [])

abbrev pub name_of_code : GlyphCode → List ℕ
name_of_code c = name_or_letters (name_by c.first c.second) c

-- the names of codes, joined by `!`
abbrev pub names_of : List GlyphCode → List ℕ
names_of [] = []
names_of (c ∷ []) = name_of_code c
names_of (c ∷ d ∷ rest) = name_of_code c ++ (codes "!" ++ names_of (d ∷ rest))

-- `space S`, or `descriptor S NAMES`
abbrev pub line_of_part : List ℕ → Descriptor → List ℕ
line_of_part kept part =
    if part.space then codes "space " ++ last_text (bytes_of kept part)
    else codes "descriptor " ++ (escaped (bytes_of kept part) ++ (codes " " ++ (names_of (codes_of kept part) ++ codes "\n")))

-- `nabc LINE:S`, and the lines of its parts
abbrev pub lines_of_nabc : ℕ → List ℕ → List ℕ
lines_of_nabc line kept = codes "nabc " ++ (decimal line ++ (codes ":" ++ (last_text kept ++ flat_map (line_of_part kept) (parts_of kept))))
