-- The glyphs of a segment one after the other.
use Rattle.std.proofs.Common.{◌≡◌, ℕ, List, [], ◌∷◌, ◌++◌, refl, sym, ap, ◌∙◌, subst, Some, drop, length, ◌≤◌, ◌+◌, ◌-◌, arith, length-drop, map, length-append, slice_range}
use Rattle.std.proofs.lemmas.List.{map-append, take_all}
use Rattle.gabc_places.specs.BoundedList.{BoundedList, Fits, extended_by}
use Rattle.gabc_notes.specs.declared.note.Note.{Note}
use Rattle.gabc_patterns.specs.LongestItems.{IsReadingBy}
use Rattle.gabc_patterns.specs.Items.{IsTakenAt, ItemSpan}
use Rattle.gabc_patterns.proofs.ReadingExists.{reading_exists}
use Rattle.gabc_patterns.proofs.ItemList.{ItemsSoFar, items_start, items_push, items_end}
use Rattle.gabc_patterns.proofs.ItemSoFar.{IsBest}
use Rattle.gabc_patterns.proofs.ItemsByLetters.{taken_letters}
use Rattle.gabc_patterns.proofs.RowsAfterACharacter.{rows_end_to}
use Rattle.gabc_neumes.specs.Glyphs.{HasKind, AreGlyphsOf, piece_of, read_as}
use Rattle.gabc_neumes.specs.Letters.{letters}
use Rattle.gabc_neumes.specs.Table.{neumes}
use Rattle.gabc_neumes.specs.machine.Glyphs.{IsFirstGlyph}
use Rattle.gabc_neumes.specs.declared.glyph.Glyph.{Glyph}
use Rattle.gabc_neumes.specs.declared.glyph.GlyphKind.{GlyphKind}
use Rattle.gabc_neumes.proofs.glyphs_of_notes.LettersOfNotes.{are_letters}
use Rattle.gabc_neumes.proofs.glyphs_of_notes.FirstGlyphByStates.{first_best}

-- no notes are no glyph
pub none_empty : (k : GlyphKind) → ¬ HasKind k []
none_empty k h = (let f = rows_end_to neumes k h in absurd (cc))

-- a note and more begin with a longest glyph
pub begins : (n : Note) (ns : List Note) → (k : GlyphKind) × (to : ℕ) × IsTakenAt HasKind (n ∷ ns) 0 k to
begins n ns = let b = first_best n ns in (b.0.0, 0 + b.0.1, taken_letters neumes letters are_letters (n ∷ ns) 0 b.0.0 b.0.1 (omega arith) b.1)

-- The glyphs before at are those; what comes from there on has a reading.
pub record Cutting (ns : List Note) (glyphs : List Glyph) (at : ℕ) : Type 0 where
  pub far : ItemsSoFar HasKind ns (map piece_of glyphs) at
  pub few : length glyphs ≤ at

-- before the first glyph
pub cutting_start : (ns : List Note) → Cutting ns [] 0
cutting_start ns = record { far = items_start HasKind ns (reading_exists HasKind begins ns); few = omega arith }

-- a glyph more
pub cutting_push : (ns rest : List Note) (glyphs : List Glyph) (at count : ℕ) (k : GlyphKind) → rest ≡ drop at ns → IsFirstGlyph rest k count → Cutting ns glyphs at
    → Cutting ns (glyphs ++ record { kind = k; first = at; count = count } ∷ []) (at + count)
cutting_push ns rest glyphs at count k e h c =
    let g : Glyph = record { kind = k; first = at; count = count } in
    let far = c.far in
    let fits = far.fits in
    let few = c.few in
    let some = h.some in
    let within = h.within in
    let size : length rest ≡ length (drop at ns) = ap length e in
    let m = are_letters.as_many rest in
    let best : IsBest neumes (letters rest) (length (letters rest)) (Some (k, count)) = (h.some, omega arith, h.item, h.none) in
    let taken = taken_letters neumes letters are_letters ns at k count fits (subst (λ (u : List Note). IsBest neumes (letters u) (length (letters u)) (Some (k, count))) e best) in
    record {
      far = subst (λ (u : List (ItemSpan GlyphKind)). ItemsSoFar HasKind ns u (at + count)) (sym (map-append piece_of glyphs (g ∷ [])))
          (items_push HasKind none_empty ns (map piece_of glyphs) at k (at + count) (omega (arith, length-drop at ns)) taken far);
      few = omega (arith, length-append glyphs (g ∷ []));
    }

same_items : (ns : List Note) (glyphs : List Glyph)
    → map (λ (i : ItemSpan GlyphKind). (i.0, slice_range ns i.1 i.2)) (map piece_of glyphs) ≡ map (read_as ns) glyphs
same_items ns [] = refl
same_items ns (g ∷ glyphs) = ap (λ (u : List (GlyphKind × List Note)). read_as ns g ∷ u) (same_items ns glyphs)

-- after the last glyph
pub cutting_end : (ns rest : List Note) (glyphs : List Glyph) (at : ℕ) → rest ≡ drop at ns → rest ≡ [] → Cutting ns glyphs at → AreGlyphsOf ns glyphs
cutting_end ns rest glyphs at e f c =
    let size : length (drop at ns) ≡ 0 = ap length (sym e ∙ f) in
    let all = items_end HasKind ns (map piece_of glyphs) at (omega (arith, length-drop at ns)) c.far in
    record { reads = subst (λ (u : List (GlyphKind × List Note)). IsReadingBy HasKind u ns) (same_items ns glyphs) all.reads; joined = all.joined }

-- where a glyph is left of the notes, there is room for it
pub room_for : (ns rest : List Note) (glyphs : List Glyph) (at count : ℕ) (k : GlyphKind) (r : BoundedList Glyph) → rest ≡ drop at ns → IsFirstGlyph rest k count → Cutting ns glyphs at
    → Fits r (length ns) → Fits (extended_by r glyphs) 1
room_for ns rest glyphs at count k r e h c room = grind (arith, length-drop, length-append)

-- what is left from a place on
pub slice_rest : (ns : List Note) (at : ℕ) → slice_range ns at (length ns) ≡ drop at ns
slice_rest ns at = take_all (length ns - at) (drop at ns) (omega (arith, length-drop at ns))
