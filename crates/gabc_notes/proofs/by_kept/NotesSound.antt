-- Which comes first, a note or a clef, is the same by the texts of items and by their spans.
use Rattle.std.proofs.Common.{◌≡◌, ℕ, ◌+◌, List, [], ◌∷◌, length, cond, refl, sym, chars, Some}
use Rattle.std.specs.Prelude.{encode_utf8_all}
use Rattle.gabc_notes.specs.Table.{gabc}
use Rattle.gabc_notes.specs.Items.{placed_items, items_of}
use Rattle.gabc_notes.specs.FirstNoteOrClef.{is_note_or_clef, first_note_or_clef}
use Rattle.gabc_notes.specs.declared.item.ItemKind.{ItemKind}
use Rattle.gabc_notes.specs.declared.item.ItemKind.TheVariants as kind
use Rattle.gabc_patterns.specs.Reads.{items_by}
use Rattle.gabc_notes.specs.FirstSound.{first_sound, is_note}

placed_sound : (is : List (ItemKind × List ℕ)) (at : ℕ) → is_note (first_note_or_clef (placed_items at is)) ≡ first_sound is
placed_sound [] at = refl
placed_sound ((k, t) ∷ is) at = by k (placed_sound is (at + length (encode_utf8_all t)))
  where
    by : (k : ItemKind) → is_note (first_note_or_clef (placed_items (at + length (encode_utf8_all t)) is)) ≡ first_sound is
        → is_note (cond (is_note_or_clef k) (Some k) (first_note_or_clef (placed_items (at + length (encode_utf8_all t)) is))) ≡ first_sound ((k, t) ∷ is)
    by kind.Note h = refl
    by kind.Clef h = refl
    by kind.Alteration h = h
    by kind.Bar h = h
    by kind.Spacing h = h
    by kind.Custos h = h
    by kind.Break h = h
    by kind.Attribute h = h
    by kind.Fusion h = h

pub sound_is : (bytes : List ℕ) → first_sound (items_by gabc (chars bytes)) ≡ is_note (first_note_or_clef (items_of bytes))
sound_is bytes = sym (placed_sound (items_by gabc (chars bytes)) 0)
