-- The lines of a snippet that is one small pitch with a sign after it.
use Rattle.std.proofs.Common.{◌≡◌, ℕ, ◌-◌, ◌≤◌, List, [], ◌∷◌, ◌++◌, true, codes, refl, ap, ◌∙◌, map, append-nil, arith}
use Rattle.std.specs.Fmt.{digits}
use Rattle.std.specs.Str.{chars}
use lib.Utf8.{encode}
use Rattle.gabc_patterns.specs.Pattern.{is_in}
use Rattle.gabc_notes.specs.Items.{items_of}
use Rattle.gabc_notes.specs.declared.item.Item.{Item}
use Rattle.gabc_notes.specs.declared.item.ItemKind.TheVariants as kind
use Rattle.gabc_notes.proofs.items_of_text.OnePitch.{by_sign}
use Rattle.gabc_neumes.specs.InForce.{InForce, sound_of}
use Rattle.gabc_neumes.specs.declared.sound.Sound.{Sound}
use Rattle.gabc_write.specs.DumpOfNotes.{line_of_note, lines_of_notes}
use Rattle.gabc_write.specs.machine.NoteLines.{lines_of_signed}
use Rattle.gabc_write.proofs.SnippetOfPitch.{pitches, by_each}

-- ---- its item

abbrev pub the_signed_note : Item
the_signed_note = record { kind = kind.Note; span = record { from = 0; to = 2 } }

abbrev EachIsOneItem : ℕ → Type 0
EachIsOneItem s = map (λ (p : ℕ). items_of (p ∷ s ∷ [])) pitches ≡ map (λ p. the_signed_note ∷ []) pitches

each_with_dot : EachIsOneItem 46
unfolding chars encode
each_with_dot = refl

each_with_line : EachIsOneItem 95
unfolding chars encode
each_with_line = refl

each_with_tick : EachIsOneItem 39
unfolding chars encode
each_with_tick = refl

pub signed_is_one_item : (s p : ℕ) → is_in s (codes "._'") ≡ true → 97 ≤ p → p ≤ 110 → items_of (p ∷ s ∷ []) ≡ the_signed_note ∷ []
signed_is_one_item s p h = by_each (λ (q : ℕ). items_of (q ∷ s ∷ [])) (λ q. the_signed_note ∷ []) (by_sign EachIsOneItem each_with_dot each_with_line each_with_tick s h) p

-- ---- its lines

abbrev lines_and_none : InForce → ℕ → ℕ → List ℕ
lines_and_none force s p = codes "notes:" ++ p ∷ s ∷ (codes "\nelement\nglyph punctum 1\n" ++ (line_of_note (sound_of force (p - 97)) (p ∷ s ∷ []) ++ []))

abbrev EachHasItsLines : InForce → ℕ → Type 0
EachHasItsLines force s = map (λ (p : ℕ). lines_of_notes force (p ∷ s ∷ [])) pitches ≡ map (lines_and_none force s) pitches

lines_with_dot : (force : InForce) → EachHasItsLines force 46
unfolding chars encode digits
lines_with_dot force = refl

lines_with_line : (force : InForce) → EachHasItsLines force 95
unfolding chars encode digits
lines_with_line force = refl

lines_with_tick : (force : InForce) → EachHasItsLines force 39
unfolding chars encode digits
lines_with_tick force = refl

signed_has_its_lines : (force : InForce) (s p : ℕ) → is_in s (codes "._'") ≡ true → 97 ≤ p → p ≤ 110 → lines_of_notes force (p ∷ s ∷ []) ≡ lines_of_signed (sound_of force (p - 97)) p s
signed_has_its_lines force s p h low high =
    by_each (λ (q : ℕ). lines_of_notes force (q ∷ s ∷ [])) (lines_and_none force s) (by_sign (EachHasItsLines force) (lines_with_dot force) (lines_with_line force) (lines_with_tick force) s h) p low high
    ∙ ap (λ (t : List ℕ). codes "notes:" ++ p ∷ s ∷ (codes "\nelement\nglyph punctum 1\n" ++ t)) (append-nil (line_of_note (sound_of force (p - 97)) (p ∷ s ∷ [])))

pub kept_has_its_lines : (force : InForce) (sound : Sound) (s p : ℕ) (kept : List ℕ) → kept ≡ p ∷ s ∷ [] → is_in s (codes "._'") ≡ true → 97 ≤ p → p ≤ 110
    → sound ≡ sound_of force (p - 97) → lines_of_signed sound p s ≡ lines_of_notes force kept
kept_has_its_lines force sound s p kept e h low high same = grind (arith, signed_has_its_lines)
