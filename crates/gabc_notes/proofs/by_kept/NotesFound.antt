-- What is found in notes by the items of what is kept is what is found by points.
use Rattle.std.proofs.Common.{◌≡◌, ◌⊎◌, inl, inr, ℕ, List, [], ◌∷◌, ◌++◌, length, Bool, true, false, cond, not, ◌&&◌, ◌||◌, refl, sym, ap, ◌∙◌, append_assoc, arith, Option, Some, None}
use Rattle.std.specs.Prelude.{reverse}
use Rattle.std.proofs.lemmas.List.{reverse-append}
use Rattle.gabc_places.specs.declared.code.Code.TheVariants.{W8, W10}
use Rattle.gabc_places.specs.declared.place.Char.{Char}
use Rattle.gabc_places.specs.declared.place.Place.{Place}
use Rattle.gabc_patterns.specs.LongestItems.{IsReading}
use Rattle.gabc_patterns.specs.ItemsRead.{ReadsTo}
use Rattle.std.proofs.lemmas.Bool.{not-true, and_parts}
use Rattle.gabc_patterns.specs.Derivative.{is_snippet as snippet_by_steps, is_viable as viable_by_steps}
use Rattle.gabc_patterns.specs.Function.{items}
use Rattle.gabc_patterns.proofs.ItemsAsFarAsOneBegins.{one_read_on, reading_read_on, read_to_the_end}
use Rattle.gabc_notes.specs.Table.{gabc}
use Rattle.gabc_notes.specs.Events.{ItemText, kept, kept_with, is_kept, is_comment, item_at, last_of, opens_fusion, closes_fusion, macro_of, is_missing, is_fused, opener, finding_event, warnings, note_events}
use Rattle.gabc_notes.specs.declared.stage.NoteEvent.{NoteEvent}
use Rattle.gabc_notes.specs.declared.state.ItemState.TheVariants.{Start}
use Rattle.gabc_notes.proofs.machine.OneCharacterMore.{point, fused_more, kept_more, kept_same}
use Rattle.gabc_notes.proofs.grammar.LawsOfKeptTexts.{kinds_are_one}
use Rattle.gabc_notes.proofs.grammar.CharactersByRelations.{kept_with_to, item_from}
use Rattle.gabc_patterns.specs.Reads.{items_by}
use Rattle.gabc_notes.specs.KeptNotes.{is_snippet, items_back, is_fused as fused_by, found_of_item, found_in_notes}
use Rattle.gabc_notes.specs.witness.NotesByKept.{all_found, events_past}
use Rattle.gabc_patterns.proofs.ItemsBy.{within_read}
use Rattle.gabc_patterns.proofs.ItemsOneMore.{Reaches, one_more}
use Rattle.gabc_notes.proofs.by_kept.NotesWalk.{NoFusion, item_walks, gone_plain}
use Rattle.gabc_notes.proofs.by_kept.NotesFates.{events_are}
use Rattle.gabc_notes.proofs.by_kept.NotesViable.{snippet_same}
use Rattle.gabc_patterns.proofs.ReadDecides.{read_to, read_from}

-- ---- items that are no fusion marks change nothing

plain_fused : (ks l : List ItemText) → NoFusion ks → fused_by (reverse ks ++ l) ≡ fused_by l
plain_fused [] l h = refl
plain_fused (k ∷ ks) l h =
    ap fused_by (ap (λ (r : List ItemText). r ++ l) (reverse-append (k ∷ []) ks) ∙ append_assoc (reverse ks) (k ∷ []) l)
    ∙ (plain_fused ks (k ∷ l) h.2 ∙ rw (h.0, h.1) refl)

-- ---- a character more

-- either no item ends with it and the items stay, or one does, in place of others, which are no
-- fusion marks
pub record Ends (t : List ℕ) (c : ℕ) : Type 0 where
  pub front : List ItemText
  pub item : ItemText
  pub reads : IsReading gabc (front ++ item ∷ []) (t ++ c ∷ [])
  pub all : items_by gabc (t ++ c ∷ []) ≡ front ++ item ∷ []
  pub fused : fused_by (reverse front) ≡ fused_by (items_back t)

nothing_longer : (r : List ℕ) (c : ℕ) → r ++ c ∷ [] ≡ [] → ⊥
nothing_longer [] c e = cc
nothing_longer (d ∷ r) c e = cc

pub step : (t : List ℕ) (c : ℕ) → ((items_by gabc (t ++ c ∷ []) ≡ items_by gabc t) × (is_snippet (t ++ c ∷ []) ≡ false)) ⊎ Ends t c
step t c = elim (one_more gabc refl (items_by gabc t) t here.0 c here.1) [
  | inl x ↦ inl (stays x.0)
  | inr x ↦ inr (ends x)
]
  where
    here : (rest : List ℕ) × ReadsTo gabc (items_by gabc t) t rest
    here = within_read gabc refl (length t) t (omega arith)

    after : (rest : List ℕ) × ReadsTo gabc (items_by gabc (t ++ c ∷ [])) (t ++ c ∷ []) rest
    after = within_read gabc refl (length (t ++ c ∷ [])) (t ++ c ∷ []) (omega arith)

    stays : ReadsTo gabc (items_by gabc t) (t ++ c ∷ []) (here.0 ++ c ∷ []) → (items_by gabc (t ++ c ∷ []) ≡ items_by gabc t) × (is_snippet (t ++ c ∷ []) ≡ false)
    stays x = ((one_read_on gabc refl kinds_are_one (items_by gabc (t ++ c ∷ [])) (items_by gabc t) (t ++ c ∷ []) after.0 (here.0 ++ c ∷ []) after.1 x).0, go (is_snippet (t ++ c ∷ [])) refl)
      where
        go : (b : Bool) → is_snippet (t ++ c ∷ []) ≡ b → b ≡ false
        go false e = refl
        go true e =
            let s = read_to gabc refl kinds_are_one (t ++ c ∷ []) e in
            absurd (nothing_longer here.0 c (one_read_on gabc refl kinds_are_one (items_by gabc t) s.0 (t ++ c ∷ []) (here.0 ++ c ∷ []) [] x (reading_read_on gabc refl s.0 (t ++ c ∷ []) s.1)).1)

    ends : Reaches gabc refl t c (items_by gabc t) here.0 → Ends t c
    ends x =
        let i : ItemText = (x.kind, x.from ++ c ∷ []) in
        let w = item_walks x.kind (x.from ++ c ∷ []) x.item in
        record {
          front = x.front;
          item = i;
          reads = read_to_the_end gabc (x.front ++ i ∷ []) (t ++ c ∷ []) x.reads;
          all = (one_read_on gabc refl kinds_are_one (items_by gabc (t ++ c ∷ [])) (x.front ++ i ∷ []) (t ++ c ∷ []) after.0 [] after.1 x.reads).0;
          fused = sym (ap (λ (l : List ItemText). fused_by (reverse l)) x.same ∙ (ap fused_by (reverse-append x.front x.back) ∙ plain_fused x.back (reverse x.front) (gone_plain x.back x.from here.0 c Start w.0 x.gone w.1 refl)));
        }

-- ---- the item at a point

no_item : (back : List Char) (x : Char) → is_kept (point back x) ≡ true → is_snippet (kept back ++ x.c ∷ []) ≡ false → item_at (point back x) ≡ None
no_item back x k s =
    ap (λ (b : Bool). cond b (cond (snippet_by_steps gabc (kept_with (point back x))) (last_of (items gabc (kept_with (point back x)))) None) None) k
    ∙ ap (λ (b : Bool). cond b (last_of (items gabc (kept_with (point back x)))) None) (sym (snippet_same (kept_with (point back x))) ∙ s)

an_item : (back : List Char) (x : Char) → is_kept (point back x) ≡ true → (e : Ends (kept back) x.c) → item_at (point back x) ≡ Some e.item
an_item back x k e = item_from back x e.item (kept_with (point back x), kept_with_to back x k, (e.front, e.reads))

back_is : (t : List ℕ) (c : ℕ) (e : Ends t c) → items_back (t ++ c ∷ []) ≡ e.item ∷ reverse e.front
back_is t c e = ap (λ (l : List ItemText). reverse l) e.all ∙ reverse-append e.front (e.item ∷ [])

by_cond : (o c f : Bool) → cond o true (cond c false f) ≡ o || (not c && f)
by_cond o c f = grind arith

kept_after : (back : List Char) (x : Char) → is_kept (point back x) ≡ true → kept (x ∷ back) ≡ kept back ++ x.c ∷ []
kept_after back x k =
    let b = and_parts (not (is_comment (point back x))) (viable_by_steps gabc (kept_with (point back x))) k in
    kept_more back x (not-true (is_comment (point back x)) b.0) ∙ ap (λ (v : Bool). cond v (kept_with (point back x)) (kept back)) b.1

kept_before : (back : List Char) (x : Char) → is_kept (point back x) ≡ false → kept (x ∷ back) ≡ kept back
kept_before back x k = go (is_comment (point back x)) refl
  where
    go : (b : Bool) → is_comment (point back x) ≡ b → kept (x ∷ back) ≡ kept back
    go true e = kept_same back x e
    go false e = kept_more back x e ∙ ap (λ (v : Bool). cond v (kept_with (point back x)) (kept back)) (sym (ap (λ (a : Bool). not a && viable_by_steps gabc (kept_with (point back x))) e) ∙ k)

-- an `@[` is open
pub fused_alike : (back : List Char) → is_fused back ≡ fused_by (items_back (kept back))
fused_alike [] = refl
fused_alike (x ∷ back) = fused_more back x ∙ go (is_kept (point back x)) refl (fused_alike back)
  where
    go : (b : Bool) → is_kept (point back x) ≡ b → is_fused back ≡ fused_by (items_back (kept back))
        → cond (opens_fusion (item_at (point back x))) true (cond (closes_fusion (item_at (point back x))) false (is_fused back)) ≡ fused_by (items_back (kept (x ∷ back)))
    go false k ih =
        let none : item_at (point back x) ≡ None = ap (λ (b : Bool). cond b (cond (snippet_by_steps gabc (kept_with (point back x))) (last_of (items gabc (kept_with (point back x)))) None) None) k in
        ap (λ (i : Option ItemText). cond (opens_fusion i) true (cond (closes_fusion i) false (is_fused back))) none
        ∙ (ih ∙ ap (λ (t : List ℕ). fused_by (items_back t)) (sym (kept_before back x k)))
    go true k ih = elim (step (kept back) x.c) [
      | inl s ↦ ap (λ (i : Option ItemText). cond (opens_fusion i) true (cond (closes_fusion i) false (is_fused back))) (no_item back x k s.1)
          ∙ (ih ∙ (ap (λ (l : List ItemText). fused_by (reverse l)) (sym s.0) ∙ ap (λ (t : List ℕ). fused_by (items_back t)) (sym (kept_after back x k))))
      | inr e ↦ ap (λ (i : Option ItemText). cond (opens_fusion i) true (cond (closes_fusion i) false (is_fused back))) (an_item back x k e)
          ∙ (by_cond (opens_fusion (Some e.item)) (closes_fusion (Some e.item)) (is_fused back)
          ∙ (ap (λ (f : Bool). opens_fusion (Some e.item) || (not (closes_fusion (Some e.item)) && f)) (ih ∙ sym e.fused)
          ∙ (ap fused_by (sym (back_is (kept back) x.c e)) ∙ ap (λ (t : List ℕ). fused_by (items_back t)) (sym (kept_after back x k)))))
    ]

-- what is found with a character that is kept
events_of : (a b : Bool) (inner here : Place) → cond a (finding_event here W10 ∷ []) [] ++ cond b (finding_event inner W8 ∷ []) [] ≡ all_found (cond a (W10 ∷ []) [] ++ cond b (W8 ∷ []) []) inner here
events_of a b inner here = grind arith

pub found_alike : (macros : ℕ) (back : List Char) (x : Char) → is_kept (point back x) ≡ true → warnings macros (point back x) ≡ all_found (found_in_notes macros (kept_with (point back x))) (opener back) x.place
found_alike macros back x k = elim (step (kept back) x.c) [
  | inl s ↦ ap (λ (i : Option ItemText). at i (is_fused back)) (no_item back x k s.1) ∙ ap (λ (b : Bool). all_found (cond b (found_of_item macros (items_back (kept_with (point back x)))) []) (opener back) x.place) (sym s.1)
  | inr e ↦ ap (λ (i : Option ItemText). at i (is_fused back)) (an_item back x k e)
      ∙ (ap (at (Some e.item)) (fused_alike back ∙ sym e.fused)
      ∙ (events_of ((opens_fusion (Some e.item) && fused_by (reverse e.front)) || (closes_fusion (Some e.item) && not (fused_by (reverse e.front)))) (is_missing macros (macro_of (Some e.item))) (opener back) x.place
      ∙ (ap (λ (l : List ItemText). all_found (found_of_item macros l) (opener back) x.place) (sym (back_is (kept back) x.c e))
      ∙ ap (λ (b : Bool). all_found (cond b (found_of_item macros (items_back (kept_with (point back x)))) []) (opener back) x.place) (sym (read_from gabc refl kinds_are_one (kept_with (point back x)) (e.front ++ e.item ∷ [], e.reads))))))
]
  where
    at : Option ItemText → Bool → List NoteEvent
    at i f = cond ((opens_fusion i && f) || (closes_fusion i && not f)) (finding_event x.place W10 ∷ []) [] ++ cond (is_missing macros (macro_of i)) (finding_event (opener back) W8 ∷ []) []

-- ---- all that is emitted of a snippet

pub notes_are : (split : Bool) (macros : ℕ) (xs : List Char) → note_events split macros xs ≡ events_past split macros [] (record { line = 0; column = 0 }) false xs
unfolding note_events
notes_are split macros xs = events_are macros (found_alike macros) fused_alike split xs [] refl
