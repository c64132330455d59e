-- Examples of what becomes of a character after a kept text, and of what is found with it.
use Rattle.std.proofs.Common.{◌≡◌, [], ◌∷◌, true, false, refl, codes, Some, None}
use Rattle.gabc_places.specs.Fate.{Keep, Comment, Ends, LeaveOut}
use Rattle.gabc_places.specs.declared.code.Code.TheVariants.{E1, E6, W8, W10}
use Rattle.gabc_patterns.specs.Reads.{items_by, whole_front}
use Rattle.gabc_notes.specs.Table.{gabc}
use Rattle.gabc_notes.specs.FirstSound.{first_sound}
use Rattle.gabc_notes.specs.KeptNotes.{in_raw, fate_in_notes, items_back, is_fused, found_in_notes, found_at_end}
use Rattle.gabc_notes.specs.declared.item.ItemKind.TheVariants.{Note, Fusion}

-- after `g` an `h` is a note, `1` goes on nothing
note_goes_on : fate_in_notes false (codes "g") 104 ≡ Keep
note_goes_on = refl

digit_is_left_out : fate_in_notes false (codes "g") 49 ≡ LeaveOut (Some E1)
digit_is_left_out = refl

-- a hyphen waits for its pitch
hyphen_waits : fate_in_notes false (codes "g") 45 ≡ Keep
hyphen_waits = refl

percent_begins_comment : fate_in_notes false (codes "g") 37 ≡ Comment
percent_begins_comment = refl

-- a `)` ends the snippet, a `|` if the notes are split
bracket_ends : fate_in_notes false (codes "g-") 41 ≡ Ends
bracket_ends = refl

bar_ends : fate_in_notes true (codes "g") 124 ≡ Ends
bar_ends = refl

bar_is_left_out : fate_in_notes false (codes "g") 124 ≡ LeaveOut (Some E1)
bar_is_left_out = refl

-- inside raw all are kept
inside : in_raw (codes "g[nm") ≡ true
inside = refl

outside : in_raw (codes "g@[n") ≡ false
outside = refl

percent_inside : fate_in_notes true (codes "g[nm") 37 ≡ Keep
percent_inside = refl

mark_inside : fate_in_notes true (codes "g[nm") 41 ≡ Keep
mark_inside = refl

-- the `[` after an `@` opens a fusion, the `]` after it closes that
fusion_items : items_back (codes "@[f]") ≡ (Fusion, codes "]") ∷ (Note, codes "f") ∷ (Fusion, codes "@[") ∷ []
fusion_items = refl

open_fusion : is_fused (items_back (codes "@[f[a]")) ≡ true
open_fusion = refl

closed_fusion : is_fused (items_back (codes "@[f]g")) ≡ false
closed_fusion = refl

nothing_found : found_in_notes 0 (codes "@[f]") ≡ []
nothing_found = refl

second_opening : found_in_notes 0 (codes "@[f@[") ≡ W10 ∷ []
second_opening = refl

closing_alone : found_in_notes 0 (codes "f]") ≡ W10 ∷ []
closing_alone = refl

-- macro 1 is not defined if bit 1 is not set; a name within a spacing is none, nor is any other
macro_missing : found_in_notes 1 (codes "f[nm1]") ≡ W8 ∷ []
macro_missing = refl

macro_defined : found_in_notes 2 (codes "f[nm1]") ≡ []
macro_defined = refl

macro_in_spacing : found_in_notes 0 (codes "/[nm1]") ≡ []
macro_in_spacing = refl

no_macro : found_in_notes 0 (codes "[xm0]") ≡ []
no_macro = refl

-- at the end
end_of_fusion : found_at_end (codes "@[f-") ≡ E6 ∷ W10 ∷ []
end_of_fusion = refl

end_of_whole : found_at_end (codes "@[f@[g]]") ≡ []
end_of_whole = refl

unfinished_end : whole_front gabc (codes "@[f-") ≡ codes "@[f"
unfinished_end = refl

-- a clef before a note, a note, and neither
clef_first : first_sound (items_by gabc (codes "::c4fg")) ≡ Some false
clef_first = refl

note_first : first_sound (items_by gabc (codes ",f c4")) ≡ Some true
note_first = refl

neither : first_sound (items_by gabc (codes ",f+")) ≡ None
neither = refl
