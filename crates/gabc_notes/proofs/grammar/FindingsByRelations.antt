-- What is found at a snippet's characters by relations is what is computed of them.
use Rattle.std.proofs.Common.{arith, ◌≡◌, ℕ, List, [], ◌∷◌, ◌++◌, Bool, true, false, cond, not, ◌&&◌, ◌⊎◌, inl, inr, refl, sym, ap, ◌∙◌, subst, codes, Option, Some, None}
use Rattle.std.proofs.Math.Bool.{or-true}
use Rattle.std.proofs.lemmas.Bool.{not-true, false_from_ne_true, and_parts, or_cases}
use Rattle.gabc_places.specs.declared.code.Code.{Code}
use Rattle.gabc_places.specs.declared.code.Code.TheVariants.{E1, W8, W10}
use Rattle.gabc_places.specs.declared.code.Finding.{Finding}
use Rattle.gabc_places.specs.declared.place.Char.{Char}
use Rattle.gabc_places.specs.declared.place.Place.{Place}
use Rattle.gabc_notes.specs.Events.{ItemText, is_comment, kept_with, is_kept, item_at, opens_fusion, closes_fusion, macro_in, macro_of, is_fused, opener, finding_event, is_defined, is_missing, is_end, is_over, is_unpaired, warnings, events_at}
use Rattle.gabc_notes.specs.FoundAt.{AreThoseFound}
use Rattle.gabc_notes.specs.SnippetRead.{findings_of}
use Rattle.gabc_notes.specs.NotesRead.{Marked, EndsItem, IsFused, IsFound, AreFound}
use Rattle.gabc_notes.specs.declared.item.ItemKind.{ItemKind}
use Rattle.gabc_notes.specs.declared.item.ItemKind.TheVariants.{Note, Attribute, Fusion}
use Rattle.gabc_notes.specs.declared.stage.NoteEvent.{NoteEvent}
use Rattle.gabc_notes.specs.declared.stage.NoteEvent.TheVariants.{Kept}
use Rattle.gabc_notes.proofs.FoundOnce.{same_finding, found_once}
use Rattle.gabc_notes.proofs.grammar.CharactersByRelations.{marks, kept_with_to, kept_with_from, item_to, item_from, opens_some, closes_some, opens_to, opens_from, closes_to, closes_from, fused_to, fused_from, opener_is, opener_only}
use Rattle.gabc_notes.proofs.machine.OneCharacterMore.{point}

-- ---- what is found at a character

abbrev pub Found : ℕ → List Char → Char → Finding → Type 0
Found macros back x f = IsFound macros (x, is_comment (point back x)) (marks back) f.code f.place

found_only : (macros : ℕ) (m : Marked) (back : List Marked) (found : Code) (p : Place) → IsFound macros m back found p
    → ((found ≡ E1) × IsFound macros m back E1 p) ⊎ (((found ≡ W8) × IsFound macros m back W8 p) ⊎ ((found ≡ W10) × IsFound macros m back W10 p))
found_only macros m back found p h = grind arith

-- a macro that is used and not defined
missing_some : (macros : ℕ) (o : Option ItemText) → is_missing macros (macro_of o) ≡ true
    → (t : List ℕ) × (digit : ℕ) × (o ≡ Some (Attribute, t)) × (macro_in t ≡ Some digit) × (is_defined macros digit ≡ false)
missing_some macros o e = grind arith

-- what warns of a bracket that is not paired is a fusion mark
fusion_item : (back : List Char) (x : Char) → is_unpaired (point back x) ≡ true → (t : List ℕ) × (item_at (point back x) ≡ Some (Fusion, t))
fusion_item back x e = elim (or_cases (opens_fusion (item_at (point back x)) && is_fused back) (closes_fusion (item_at (point back x)) && not (is_fused back)) e) [
  | inl h ↦ (codes "@[", opens_some (item_at (point back x)) (and_parts (opens_fusion (item_at (point back x))) (is_fused back) h).0)
  | inr h ↦ (codes "]", closes_some (item_at (point back x)) (and_parts (closes_fusion (item_at (point back x))) (not (is_fused back)) h).0)
]

unpaired_to : (back : List Char) (x : Char) → is_unpaired (point back x) ≡ true
    → (EndsItem (marks (x ∷ back)) (Fusion, codes "@[") × IsFused (marks back)) ⊎ (EndsItem (marks (x ∷ back)) (Fusion, codes "]") × (¬ IsFused (marks back)))
unpaired_to back x e = grind (arith, or_cases, and_parts, opens_to, fused_to, closes_to, not-true, fused_from)

unpaired_from : (back : List Char) (x : Char)
    → (EndsItem (marks (x ∷ back)) (Fusion, codes "@[") × IsFused (marks back)) ⊎ (EndsItem (marks (x ∷ back)) (Fusion, codes "]") × (¬ IsFused (marks back)))
    → is_unpaired (point back x) ≡ true
unpaired_from back x (inl h) = grind (arith, opens_from, fused_from, point)
unpaired_from back x (inr h) = grind (arith, closes_from, false_from_ne_true, fused_to, point, or-true)

missing_from : (macros : ℕ) (back : List Char) (x : Char) (t : List ℕ) (digit : ℕ) → EndsItem (marks (x ∷ back)) (Attribute, t) → macro_in t ≡ Some digit → is_defined macros digit ≡ false
    → is_missing macros (macro_of (item_at (point back x))) ≡ true
missing_from macros back x t digit i m d =
    ap (λ (o : Option ItemText). is_missing macros (macro_of o)) (item_from back x (Attribute, t) i) ∙ (ap (is_missing macros) m ∙ ap not d)

pub found_here : (split : Bool) (macros : ℕ) (back : List Char) (x : Char) → is_over split back ≡ false → is_end split (point back x) ≡ false
    → AreThoseFound (Found macros back x) (findings_of (events_at split macros (point back x)))
unfolding marks
found_here split macros back x running no_mark =
    subst (λ (es : List NoteEvent). AreThoseFound (Found macros back x) (findings_of es)) (sym same) (at_comment (is_comment (point back x)) refl)
  where
    same : events_at split macros (point back x) ≡ cond (is_comment (point back x)) [] (cond (is_kept (point back x)) (Kept x ∷ warnings macros (point back x)) (finding_event x.place E1 ∷ []))
    same = cc

    silent : is_comment (point back x) ≡ true → (f : Finding) → Found macros back x f → ⊥
    silent e f h = grind arith

    quiet : is_kept (point back x) ≡ true → is_unpaired (point back x) ≡ false → is_missing macros (macro_of (item_at (point back x))) ≡ false → (f : Finding) → Found macros back x f → ⊥
    quiet k p m f h = elim (found_only macros (x, is_comment (point back x)) (marks back) f.code f.place h) [
      | inl u ↦ u.1.1 (kept_with (point back x)) (kept_with_to back x k)
      | inr v ↦ elim v [
        | inl u ↦ (let g = missing_from macros back x u.1.0.0 u.1.0.1 u.1.0.2 u.1.0.3 u.1.0.4 in absurd (cc))
        | inr u ↦ (let g = unpaired_from back x u.1.0 in absurd (cc))
      ]
    ]

    warned : is_kept (point back x) ≡ true → (a : Bool) → is_unpaired (point back x) ≡ a → (b : Bool) → is_missing macros (macro_of (item_at (point back x))) ≡ b
        → AreThoseFound (Found macros back x) (findings_of (Kept x ∷ cond a (finding_event x.place W10 ∷ []) [] ++ cond b (finding_event (opener back) W8 ∷ []) []))
    warned k a e b f = grind (arith, fusion_item, unpaired_to, missing_some, point, item_to, opener_is, quiet)

    at_kept : is_comment (point back x) ≡ false → (b : Bool) → is_kept (point back x) ≡ b
        → AreThoseFound (Found macros back x) (findings_of (cond b (Kept x ∷ warnings macros (point back x)) (finding_event x.place E1 ∷ [])))
    at_kept e true k = warned k (is_unpaired (point back x)) refl (is_missing macros (macro_of (item_at (point back x)))) refl
    at_kept e false k = inl (record { place = x.place; code = E1 }, (e, (λ t h. let g = (kept_with_from back x t h).0 in absurd (cc)), refl), refl)

    at_comment : (b : Bool) → is_comment (point back x) ≡ b
        → AreThoseFound (Found macros back x) (findings_of (cond b [] (cond (is_kept (point back x)) (Kept x ∷ warnings macros (point back x)) (finding_event x.place E1 ∷ []))))
    at_comment b e = grind (arith, silent, at_kept, point)

-- ---- nothing else is so found

abbrev kind_in : Option ItemText → ItemKind
kind_in None = Note
kind_in (Some i) = i.0

kinds_differ : (o : Option ItemText) (t u : List ℕ) → o ≡ Some (Fusion, u) → o ≡ Some (Attribute, t) → ⊥
kinds_differ o t u a b = (let e : Fusion ≡ Attribute = sym (ap kind_in a) ∙ ap kind_in b in cc)

-- an item is no other
other_kinds : (back : List Char) (x : Char) (t : List ℕ)
    → (EndsItem (marks (x ∷ back)) (Fusion, codes "@[") × IsFused (marks back)) ⊎ (EndsItem (marks (x ∷ back)) (Fusion, codes "]") × (¬ IsFused (marks back)))
    → EndsItem (marks (x ∷ back)) (Attribute, t) → ⊥
other_kinds back x t (inl h) i = kinds_differ (item_at (point back x)) t (codes "@[") (item_from back x (Fusion, codes "@[") h.0) (item_from back x (Attribute, t) i)
other_kinds back x t (inr h) i = kinds_differ (item_at (point back x)) t (codes "]") (item_from back x (Fusion, codes "]") h.0) (item_from back x (Attribute, t) i)

-- what is found of a character that is not kept is no warning
no_warning : (macros : ℕ) (back : List Char) (x : Char) (p q : Place) → IsFound macros (x, is_comment (point back x)) (marks back) E1 p
    → (IsFound macros (x, is_comment (point back x)) (marks back) W8 q → ⊥) × (IsFound macros (x, is_comment (point back x)) (marks back) W10 q → ⊥)
unfolding marks
no_warning macros back x p q h = (λ u. h.1 u.0.2.0 u.0.2.1, λ u. go u.0)
  where
    go : (EndsItem (marks (x ∷ back)) (Fusion, codes "@[") × IsFused (marks back)) ⊎ (EndsItem (marks (x ∷ back)) (Fusion, codes "]") × (¬ IsFused (marks back))) → ⊥
    go (inl v) = h.1 v.0.0 v.0.1
    go (inr v) = h.1 v.0.0 v.0.1

pub one_finding : (macros : ℕ) (back : List Char) (x : Char) (f g : Finding) → Found macros back x f → Found macros back x g → f ≡ g
unfolding marks
one_finding macros back x f g h k = go (found_only macros (x, is_comment (point back x)) (marks back) f.code f.place h) (found_only macros (x, is_comment (point back x)) (marks back) g.code g.place k)
  where
    go : ((f.code ≡ E1) × IsFound macros (x, is_comment (point back x)) (marks back) E1 f.place)
        ⊎ (((f.code ≡ W8) × IsFound macros (x, is_comment (point back x)) (marks back) W8 f.place) ⊎ ((f.code ≡ W10) × IsFound macros (x, is_comment (point back x)) (marks back) W10 f.place))
        → ((g.code ≡ E1) × IsFound macros (x, is_comment (point back x)) (marks back) E1 g.place)
        ⊎ (((g.code ≡ W8) × IsFound macros (x, is_comment (point back x)) (marks back) W8 g.place) ⊎ ((g.code ≡ W10) × IsFound macros (x, is_comment (point back x)) (marks back) W10 g.place))
        → f ≡ g
    go (inl u) (inl v) = same_finding f g (u.1.2 ∙ sym v.1.2) (u.0 ∙ sym v.0)
    go (inl u) (inr (inl v)) = absurd ((no_warning macros back x f.place g.place u.1).0 v.1)
    go (inl u) (inr (inr v)) = absurd ((no_warning macros back x f.place g.place u.1).1 v.1)
    go (inr (inl u)) (inl v) = absurd ((no_warning macros back x g.place f.place v.1).0 u.1)
    go (inr (inr u)) (inl v) = absurd ((no_warning macros back x g.place f.place v.1).1 u.1)
    go (inr (inl u)) (inr (inl v)) = same_finding f g (opener_only back f.place u.1.1 ∙ sym (opener_only back g.place v.1.1)) (u.0 ∙ sym v.0)
    go (inr (inr u)) (inr (inr v)) = same_finding f g (u.1.1 ∙ sym v.1.1) (u.0 ∙ sym v.0)
    go (inr (inl u)) (inr (inr v)) = absurd (other_kinds back x u.1.0.0 v.1.0 u.1.0.2)
    go (inr (inr u)) (inr (inl v)) = absurd (other_kinds back x v.1.0.0 u.1.0 v.1.0.2)

pub one_found : (macros : ℕ) (back : List Char) (fs gs : List Finding) → AreFound macros (marks back) fs → AreFound macros (marks back) gs → fs ≡ gs
unfolding marks
one_found macros [] fs gs h k = h ∙ sym k
one_found macros (x ∷ back) fs gs (a, b, e, before, here) (c, d, f, earlier, there) =
    let p = one_found macros back a c before earlier in
    let q = found_once (Found macros back x) (one_finding macros back x) b d here there in
    e ∙ (ap (λ (u : List Finding). u ++ b) p ∙ (ap (λ (u : List Finding). c ++ u) q ∙ sym f))
