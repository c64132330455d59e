-- The lines of a snippet are short.
use Rattle.std.proofs.Common.{◌≡◌, ℕ, ◌+◌, ◌*◌, ◌-◌, ◌≤◌, ◌<◌, ◌^◌, List, [], ◌∷◌, ◌++◌, Bool, Option, Some, None, length, length-append, length-take, codes, arith, refl, ap, IsUtf8}
use Rattle.std.specs.Str.{chars}
use Rattle.std.specs.List.{flat_map, range_with_len}
use Rattle.std.specs.Fmt.{decimal}
use Rattle.std.proofs.lemmas.Fmt.{length-decimal-le}
use Rattle.std.proofs.lemmas.List.FromFn.{length-range_with_len}
use Rattle.std.proofs.lemmas.Str.{encodes-chars, length-encode}
use lib.Utf8.{encodes}
use Rattle.gabc_patterns.specs.Reads.{items_by}
use Rattle.gabc_notes.specs.Items.{placed_items, items_of}
use Rattle.gabc_notes.specs.Table.{gabc}
use Rattle.gabc_notes.specs.declared.item.ItemKind.{ItemKind}
use Rattle.gabc_neumes.specs.InForce.{InForce}
use Rattle.gabc_nabc.specs.Codes.{code_at, codes_in}
use Rattle.gabc_nabc.specs.Names.{name_by}
use Rattle.gabc_nabc.specs.Parts.{placed_parts, parts_of}
use Rattle.gabc_nabc.specs.Table.{nabc}
use Rattle.gabc_nabc.specs.declared.code.GlyphCode.{GlyphCode}
use Rattle.gabc_nabc.specs.declared.descriptor.Descriptor.{Descriptor}
use Rattle.gabc_write.specs.DumpOfNotes.{last_text, lines_after, lines_of_notes}
use Rattle.gabc_write.specs.DumpOfNabc.{name_or_letters, name_of_code, names_of, line_of_part, lines_of_nabc}
use Rattle.gabc_write.proofs.DumpOfHeadersIsShort.{escaped_short}
use Rattle.gabc_write.proofs.dump_is_short.LineOfItem.{last_short}
use Rattle.gabc_write.proofs.dump_is_short.LinesOfItems as items
use Rattle.gabc_write.proofs.dump_is_short.PiecesOfText.{bytes_in, HaveBytes, pieces_have}

-- ---- notes

items_have : (at : ℕ) (is : List (ItemKind × List ℕ)) → HaveBytes is → items.HaveBytes (placed_items at is) × (items.items_size (placed_items at is) ≡ bytes_in is)
items_have at [] h = (tt, refl)
items_have at (i ∷ is) (a, h) = grind (arith, items_have (at + length (encodes i.1)) is h)

pub notes_short : (outset : InForce) (kept : List ℕ) → IsUtf8 kept → length kept < 2 ^ 64 → length (lines_of_notes outset kept) ≤ 63 * length kept + 7
notes_short outset kept u l =
    let p = pieces_have gabc (length (chars kept)) (chars kept) in
    let h = items_have 0 (items_by gabc (chars kept)) p.0 in
    let size = h.1 in
    let few = p.1 in
    let whole = ap (length {A = ℕ}) (encodes-chars kept u) in
    omega (arith, length-append (last_text kept) (lines_after outset kept [] (items_of kept)), last_short kept, items.items_short outset kept (items_of kept) h.0 (omega arith), size, few, whole)

-- ---- NABC

-- each name of the table is short
abbrev pub NamesAreShort : Type 0
NamesAreShort = (a b : ℕ) (name : List ℕ) → name_by a b ≡ Some name → length name ≤ 20

letters_short : (a b : ℕ) → length (encodes (a ∷ b ∷ [])) ≤ 8
letters_short a b = grind (arith, length-append, length-encode)

module _ (short : NamesAreShort) where
  name_short : (c : GlyphCode) → length (name_of_code c) ≤ 20
  name_short c = by (name_by c.first c.second) (λ n e. short c.first c.second n e)
    where
      by : (o : Option (List ℕ)) → ((name : List ℕ) → o ≡ Some name → length name ≤ 20) → length (name_or_letters o c) ≤ 20
      by None f = omega (arith, letters_short c.first c.second)
      by (Some name) f = f name refl

  names_short : (cs : List GlyphCode) → length (names_of cs) ≤ 21 * length cs
  names_short [] = omega arith
  names_short (c ∷ []) = omega (arith, name_short c)
  names_short (c ∷ d ∷ cs) = omega (arith, length-append (name_of_code c) (codes "!" ++ names_of (d ∷ cs)), name_short c, names_short (d ∷ cs))

  one_code : (t : List ℕ) (i : ℕ) → length (code_at t i) ≤ 1
  one_code t i = grind arith

  codes_at : (t : List ℕ) (places : List ℕ) → length (flat_map (code_at t) places) ≤ length places
  codes_at t [] = omega arith
  codes_at t (i ∷ is) = omega (arith, length-append (code_at t i) (flat_map (code_at t) is), one_code t i, codes_at t is)

  codes_few : (t : List ℕ) → length (codes_in t) ≤ length t
  codes_few t = omega (arith, codes_at t (range_with_len 1 (length t - 1)), length-range_with_len 1 (length t - 1))

  -- how many bytes the parts have
  abbrev part_size : Descriptor → ℕ
  part_size p = p.span.to - p.span.from

  abbrev parts_size : List Descriptor → ℕ
  parts_size [] = 0
  parts_size (p ∷ ps) = part_size p + parts_size ps

  abbrev PartsHaveBytes : List Descriptor → Type 0
  PartsHaveBytes [] = Unit {0}
  PartsHaveBytes (p ∷ ps) = (1 ≤ part_size p) × PartsHaveBytes ps

  parts_have : (at : ℕ) (is : List (Bool × List ℕ)) → HaveBytes is → PartsHaveBytes (placed_parts at is) × (parts_size (placed_parts at is) ≡ bytes_in is)
  parts_have at [] h = (tt, refl)
  parts_have at (i ∷ is) (a, h) = grind (arith, parts_have (at + length (encodes i.1)) is h)

  part_short : (kept : List ℕ) (p : Descriptor) → 1 ≤ part_size p → length (line_of_part kept p) ≤ 36 * part_size p
  part_short kept p h = grind (arith, length-take, last_short, length-append, escaped_short, names_short, codes_few)

  parts_short : (kept : List ℕ) (ps : List Descriptor) → PartsHaveBytes ps → length (flat_map (line_of_part kept) ps) ≤ 36 * parts_size ps
  parts_short kept [] h = omega arith
  parts_short kept (p ∷ ps) (a, h) = omega (arith, length-append (line_of_part kept p) (flat_map (line_of_part kept) ps), part_short kept p a, parts_short kept ps h)

  pub nabc_short : (line : ℕ) (kept : List ℕ) → line < 256 → IsUtf8 kept → length (lines_of_nabc line kept) ≤ 38 * length kept + 10
  nabc_short line kept l u =
      let p = pieces_have nabc (length (chars kept)) (chars kept) in
      let h = parts_have 0 (items_by nabc (chars kept)) p.0 in
      let size = h.1 in
      let few = p.1 in
      let whole = ap (length {A = ℕ}) (encodes-chars kept u) in
      let digits : length (decimal line) ≤ 3 = length-decimal-le 3 line (omega arith) (omega arith) (omega arith) in
      omega (
        arith,
        length-append (decimal line) (codes ":" ++ (last_text kept ++ flat_map (line_of_part kept) (parts_of kept))),
        length-append (last_text kept) (flat_map (line_of_part kept) (parts_of kept)),
        last_short kept,
        parts_short kept (parts_of kept) h.0,
        size,
        few,
        whole,
        digits,
      )
