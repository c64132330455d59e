-- The lines of a snippet that is one small pitch.
use Rattle.std.proofs.Common.{◌≡◌, ℕ, ◌-◌, ◌≤◌, List, [], ◌∷◌, ◌++◌, codes, refl, sym, ap, ◌∙◌, arith, map, append-nil}
use Rattle.std.specs.Fmt.{digits}
use Rattle.std.specs.Str.{chars}
use Rattle.std.specs.List.{range_with_len}
use Rattle.std.proofs.lemmas.List.FromFn.{get_or-map-range_with_len}
use lib.Utf8.{encode}
use Rattle.gabc_notes.specs.Items.{items_of}
use Rattle.gabc_notes.specs.declared.item.Item.{Item}
use Rattle.gabc_notes.specs.declared.item.ItemKind.TheVariants as kind
use Rattle.gabc_neumes.specs.InForce.{InForce, sound_of}
use Rattle.gabc_neumes.specs.declared.sound.Sound.{Sound}
use Rattle.gabc_write.specs.DumpOfNotes.{line_of_note, lines_of_notes}
use Rattle.gabc_write.specs.machine.NoteLines.{lines_of_pitch}

-- the pitches from `a` to `n`
abbrev pub pitches : List ℕ
pitches = range_with_len 97 14

-- two functions that are one on each of them are one on any of them
pub by_each : {X : Type 0} (f g : ℕ → X) → map f pitches ≡ map g pitches → (p : ℕ) → 97 ≤ p → p ≤ 110 → f p ≡ g p
by_each f g e p low high = grind (arith, get_or-map-range_with_len)

-- ---- its item

abbrev pub the_note : Item
the_note = record { kind = kind.Note; span = record { from = 0; to = 1 } }

each_is_one_item : map (λ (p : ℕ). items_of (p ∷ [])) pitches ≡ map (λ p. the_note ∷ []) pitches
unfolding chars encode
each_is_one_item = refl

pub pitch_is_one_item : (p : ℕ) → 97 ≤ p → p ≤ 110 → items_of (p ∷ []) ≡ the_note ∷ []
pitch_is_one_item = by_each (λ (p : ℕ). items_of (p ∷ [])) (λ p. the_note ∷ []) each_is_one_item

-- ---- its lines

abbrev lines_and_none : InForce → ℕ → List ℕ
lines_and_none force p = codes "notes:" ++ p ∷ (codes "\nelement\nglyph punctum 1\n" ++ (line_of_note (sound_of force (p - 97)) (p ∷ []) ++ []))

each_has_its_lines : (force : InForce) → map (λ (p : ℕ). lines_of_notes force (p ∷ [])) pitches ≡ map (lines_and_none force) pitches
unfolding chars encode digits
each_has_its_lines force = refl

pitch_has_its_lines : (force : InForce) (p : ℕ) → 97 ≤ p → p ≤ 110 → lines_of_notes force (p ∷ []) ≡ lines_of_pitch (sound_of force (p - 97)) p
pitch_has_its_lines force p low high =
    by_each (λ (q : ℕ). lines_of_notes force (q ∷ [])) (lines_and_none force) (each_has_its_lines force) p low high
    ∙ ap (λ (t : List ℕ). codes "notes:" ++ p ∷ (codes "\nelement\nglyph punctum 1\n" ++ t)) (append-nil (line_of_note (sound_of force (p - 97)) (p ∷ [])))

pub kept_has_its_lines : (force : InForce) (sound : Sound) (p : ℕ) (kept : List ℕ) → kept ≡ p ∷ [] → 97 ≤ p → p ≤ 110 → sound ≡ sound_of force (p - 97)
    → lines_of_pitch sound p ≡ lines_of_notes force kept
kept_has_its_lines force sound p kept e low high s = ap (λ (x : Sound). lines_of_pitch x p) s ∙ (sym (pitch_has_its_lines force p low high) ∙ ap (lines_of_notes force) (sym e))
