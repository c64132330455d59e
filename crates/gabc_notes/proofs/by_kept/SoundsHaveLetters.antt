-- A text without a letter from a to p has neither a note nor a clef.
use Rattle.std.proofs.Common.{◌≡◌, ℕ, ◌+◌, inl, inr, List, [], ◌∷◌, ◌++◌, length, Bool, true, false, ◌||◌, cond, refl, sym, ap, ◌∙◌, chars, Some, None, arith, IsTrue}
use Rattle.std.specs.Prelude.{codes, encode_utf8_all}
use Rattle.std.specs.List.{list_any, list_all}
use Rattle.std.proofs.lemmas.Bool.{and_parts}
use Rattle.std.proofs.lemmas.List.Folds.{list_any-append}
use Rattle.gabc_patterns.specs.Pattern.{Spells, is_in, ◌·◌, ◌or◌, one_of}
use Rattle.gabc_patterns.specs.LongestItems.{IsItemOf}
use Rattle.gabc_patterns.specs.ItemsRead.{ReadsTo}
use Rattle.gabc_patterns.specs.Reads.{items_by}
use Rattle.gabc_patterns.proofs.ItemsBy.{within_read}
use Rattle.gabc_notes.specs.Table.{gabc, note, clef, one_clef, pitch, capital, digits}
use Rattle.gabc_notes.specs.Items.{placed_items, items_of}
use Rattle.gabc_notes.specs.FirstNoteOrClef.{is_note_or_clef, first_note_or_clef}
use Rattle.gabc_notes.specs.machine.Items.{is_from_a_to_p}
use Rattle.gabc_notes.specs.declared.item.ItemKind.{ItemKind}
use Rattle.gabc_notes.specs.declared.item.ItemKind.TheVariants as kind

abbrev has_letter : List ℕ → Bool
has_letter t = list_any is_from_a_to_p t

letter_among : (cs : List ℕ) → list_all is_from_a_to_p cs ≡ true → (c : ℕ) → IsTrue (is_in c cs) → is_from_a_to_p c ≡ true
letter_among [] a c i = absurd (cc)
letter_among (d ∷ cs) a c i =
    let g = and_parts (is_from_a_to_p d) (list_all is_from_a_to_p cs) a in
    let more = letter_among cs g.1 c in
    grind (arith, g.0, more)

letter_in : (cs : List ℕ) → list_all is_from_a_to_p cs ≡ true → (t : List ℕ) → Spells (one_of cs) t → has_letter t ≡ true
letter_in cs a t (c, i, e) = let h = letter_among cs a c i in ap has_letter e ∙ ap (λ (b : Bool). b || false) h

letter_first : (a b : List ℕ) → has_letter a ≡ true → has_letter (a ++ b) ≡ true
letter_first a b h = list_any-append is_from_a_to_p a b ∙ ap (λ (x : Bool). x || has_letter b) h

or_true : (x y : Bool) → y ≡ true → x || y ≡ true
or_true true y e = refl
or_true false y e = e

letter_later : (a b : List ℕ) → has_letter b ≡ true → has_letter (a ++ b) ≡ true
letter_later a b h = list_any-append is_from_a_to_p a b ∙ or_true (has_letter a) (has_letter b) h

pitch_letter : (t : List ℕ) → Spells (pitch or capital · digits) t → has_letter t ≡ true
pitch_letter t (inl h) = letter_in (codes "abcdefghijklmnp") refl t h
pitch_letter t (inr (a, b, h, x, e)) = ap has_letter e ∙ letter_first a b (letter_in (codes "ABCDEFGHIJKLMNP") refl a h)

note_letter : (t : List ℕ) → Spells note t → has_letter t ≡ true
note_letter t (a, b, x, (c, d, h, y, f), e) = ap has_letter e ∙ letter_later a b (ap has_letter f ∙ letter_first c d (pitch_letter c h))

one_clef_letter : (t : List ℕ) → Spells one_clef t → has_letter t ≡ true
one_clef_letter t (a, b, h, x, e) = ap has_letter e ∙ letter_first a b (letter_in (codes "cf") refl a h)

clef_letter : (t : List ℕ) → Spells clef t → has_letter t ≡ true
clef_letter t (inl h) = one_clef_letter t h
clef_letter t (inr (a, b, h, x, e)) = ap has_letter e ∙ letter_first a b (one_clef_letter a h)

silent : (k : ItemKind) (t : List ℕ) → IsItemOf gabc k t → has_letter t ≡ false → is_note_or_clef k ≡ false
silent k t (inl (e, h)) n = absurd (let l = note_letter t h in cc)
silent k t (inr (inl (e, h))) n = ap is_note_or_clef (sym e)
silent k t (inr (inr (inl (e, h)))) n = absurd (let l = clef_letter t h in cc)
silent k t (inr (inr (inr (inl (e, h))))) n = ap is_note_or_clef (sym e)
silent k t (inr (inr (inr (inr (inl (e, h)))))) n = ap is_note_or_clef (sym e)
silent k t (inr (inr (inr (inr (inr (inl (e, h))))))) n = ap is_note_or_clef (sym e)
silent k t (inr (inr (inr (inr (inr (inr (inl (e, h)))))))) n = ap is_note_or_clef (sym e)
silent k t (inr (inr (inr (inr (inr (inr (inr (inl (e, h))))))))) n = ap is_note_or_clef (sym e)
silent k t (inr (inr (inr (inr (inr (inr (inr (inr (inl (e, h)))))))))) n = ap is_note_or_clef (sym e)
silent k t (inr (inr (inr (inr (inr (inr (inr (inr (inr h))))))))) n = absurd h

neither : (x y : Bool) → x || y ≡ false → (x ≡ false) × (y ≡ false)
neither true y e = absurd (cc)
neither false y e = (refl, e)

none_sounds : (is : List (ItemKind × List ℕ)) (at : ℕ) (t rest : List ℕ) → ReadsTo gabc is t rest → has_letter t ≡ false → first_note_or_clef (placed_items at is) ≡ None
none_sounds [] at t rest r n = refl
none_sounds ((k, s) ∷ is) at t rest (more, e, item, longest, r) n =
    let parts = neither (has_letter s) (has_letter more) (sym (list_any-append is_from_a_to_p s more) ∙ (sym (ap has_letter e) ∙ n)) in
    let to = at + length (encode_utf8_all s) in
    ap (λ (b : Bool). cond b (Some k) (first_note_or_clef (placed_items to is))) (silent k s item parts.0) ∙ none_sounds is to more rest r parts.1

pub without_letters : (bytes : List ℕ) → has_letter (chars bytes) ≡ false → first_note_or_clef (items_of bytes) ≡ None
without_letters bytes n =
    let r = within_read gabc refl (length (chars bytes)) (chars bytes) (omega arith) in
    none_sounds (items_by gabc (chars bytes)) 0 (chars bytes) r.0 r.1 n
