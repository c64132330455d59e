-- The codes of a descriptor's glyphs.
use Rattle.std.specs.Prelude.{◌≡◌, ℕ, ◌-◌, ◌==◌, ◌||◌, List, [], ◌∷◌, ◌++◌, if◌then◌else◌, length, map, slice_index}
use Rattle.std.specs.List.{flat_map, range_with_len}
use Rattle.gabc_patterns.specs.Pattern.{Spells, Each, many, ◌or◌}
use Rattle.gabc_nabc.specs.Table.{glyph, points, letters}
use Rattle.gabc_nabc.specs.Parts.{bytes_of}
use Rattle.gabc_nabc.specs.declared.code.GlyphCode.{GlyphCode}
use Rattle.gabc_nabc.specs.declared.descriptor.Descriptor.{Descriptor}

-- the code whose second letter is at this place: if its first letter is at the start of the text,
-- or after a `!`
abbrev pub code_at : List ℕ → ℕ → List GlyphCode
code_at text i = if (i == 1) || (slice_index text (i - 2) == 33) then record { first = slice_index text (i - 1); second = slice_index text i } ∷ [] else []

-- the codes at that place of the text and at those after it, in order
abbrev pub codes_from : List ℕ → ℕ → List GlyphCode
codes_from text at = flat_map (code_at text) (range_with_len at (length text - at))

-- the codes at all places of the text but the first
abbrev pub codes_in : List ℕ → List GlyphCode
codes_in text = codes_from text 1

-- the codes of a part of a kept text: a space has none
abbrev pub codes_of : List ℕ → Descriptor → List GlyphCode
codes_of bytes part = if part.space then [] else codes_in (bytes_of bytes part)

-- glyphs joined by `!`
abbrev pub glyphs_joined : List (List ℕ) → List ℕ
glyphs_joined [] = []
glyphs_joined (g ∷ []) = g
glyphs_joined (g ∷ h ∷ gs) = g ++ 33 ∷ glyphs_joined (h ∷ gs)

-- the code of a glyph: its first two letters
abbrev pub code_of_glyph : List ℕ → GlyphCode
code_of_glyph g = record { first = slice_index g 0; second = slice_index g 1 }

-- The text is glyphs joined by `!`, then points and letters, and its codes are those of the glyphs.
pub record HasCodesOfGlyphs (t : List ℕ) : Type 0 where
  pub glyphs : List (List ℕ)
  pub tail : List ℕ
  pub each : Each (Spells glyph) glyphs
  pub spelled : Spells (many (points or letters)) tail
  pub cut : t ≡ glyphs_joined glyphs ++ tail
  pub codes : codes_in t ≡ map code_of_glyph glyphs
