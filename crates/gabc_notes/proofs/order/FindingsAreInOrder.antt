-- The findings of a text are emitted in the order of their places.
use Rattle.std.proofs.Common.{◌≡◌, ℕ, List, [], ◌∷◌, ◌++◌, Bool, true, false, cond, not, ◌&&◌, ◌||◌, ◌==◌, ◌⊎◌, inl, inr, refl, sym, ap, ◌∙◌, subst, codes, Option, None, arith}
use Rattle.std.proofs.lemmas.Bool.{or_parts, not-true, and_parts, or_cases}
use Rattle.std.proofs.Math.Bool.{and-false}
use Rattle.gabc_places.proofs.PlacesInOrder.{before_up_to, up_to_self, before_then, before_next}
use Rattle.gabc_places.specs.declared.code.Code.TheVariants.{E1, W8, W10}
use Rattle.gabc_places.specs.declared.code.Finding.{Finding}
use Rattle.gabc_places.specs.declared.place.Char.{Char}
use Rattle.gabc_places.specs.declared.place.Place.{Place}
use Rattle.gabc_places.specs.Findings.{AreInOrder, IsUpTo}
use Rattle.gabc_places.specs.StageLaw.{concat_of}
use Rattle.gabc_places.specs.Place.{next_place, placed_characters_from}
use Rattle.gabc_places.specs.PlacesInOrder.{IsEarlier}
use Rattle.gabc_patterns.specs.Derivative.{is_alive, is_snippet, is_viable}
use Rattle.gabc_patterns.specs.Function.{items}
use Rattle.gabc_patterns.proofs.AutomatonsByTests.{reading_of}
use Rattle.gabc_patterns.proofs.LongestMunchByCharacter.{snippet_from}
use Rattle.gabc_patterns.proofs.StatesAfterTexts.{state_of, after_char}
use Rattle.gabc_notes.specs.Table.{gabc}
use Rattle.gabc_notes.specs.machine.StageEvents.{nothing_before}
use Rattle.gabc_notes.specs.witness.StageEvents.{char_facts, raw_with, before_in}
use Rattle.gabc_notes.specs.Events.{ItemText, Point, in_raw, kept, kept_with, is_comment, is_kept, is_end, is_over, is_fused, is_unpaired, is_missing, opener, item_at, opens_fusion, closes_fusion, macro_of, finding_event, last_of, warnings, at_end, events_at, note_events, note_events_after}
use Rattle.gabc_notes.specs.SnippetRead.{findings_of}
use Rattle.gabc_notes.specs.declared.stage.Before.{Before}
use Rattle.gabc_notes.specs.declared.stage.NoteEvent.{NoteEvent}
use Rattle.gabc_notes.specs.declared.stage.NoteEvent.TheVariants.{Kept}
use Rattle.gabc_notes.specs.declared.stage.CharRole.TheVariants.{Keep}
use Rattle.gabc_notes.specs.machine.ItemMachine.{raw_state}
use Rattle.gabc_notes.specs.declared.state.ItemState.{ItemState}
use Rattle.gabc_notes.proofs.machine.StageEmitsItsEvents.{raw_is}
use Rattle.gabc_notes.proofs.machine.MachineReadsTable.{machine, snippets_read}
use Rattle.gabc_notes.proofs.grammar.InsideRawIsAnOpenBracket.{on}
use Rattle.gabc_notes.proofs.grammar.LawsOfEventsByPoint.{cut_outs, over_joined, more_over}
use Rattle.gabc_notes.proofs.machine.EventsDependOnState.{raw_at, raw_by}
use Rattle.gabc_notes.proofs.machine.LoopOverBody.{findings_append, is_emitted}
use Rattle.gabc_notes.proofs.machine.FreshStageEmitsEventsByPoint.{Holds, begun, unkept, kept_holds, macro_is}
use Rattle.gabc_notes.proofs.machine.OneCharacterMore.{point, kept_more, kept_same, opener_more, pick_none, pick_kept, pick_left}

-- ---- sorted findings

abbrev pub HeadFrom : Place → List Finding → Type 0
HeadFrom p [] = Unit {0}
HeadFrom p (f ∷ fs) = IsUpTo p f.place

-- in order, and none before p
pub record Sorted (p : Place) (fs : List Finding) : Type 0 where
  pub order : AreInOrder fs
  pub head : HeadFrom p fs

no_findings : (p : Place) → Sorted p []
no_findings p = record { order = tt; head = tt }

weaken : (p q : Place) (fs : List Finding) → IsUpTo p q → Sorted q fs → Sorted p fs
weaken p q fs l s = grind arith

prepend : (p q : Place) (f : Finding) (fs : List Finding) → IsUpTo p f.place → IsEarlier f.place q → Sorted q fs → Sorted p (f ∷ fs)
prepend p q f fs l m s = grind arith

-- ---- what holds before a character

plain_mark : (split : Bool) (back : List Char) (x : Char) → is_comment (point back x) ≡ false → is_end split (point back x) ≡ false
    → (not (in_raw (kept back)) && ((x.c == 41) || (split && (x.c == 124)))) ≡ false
plain_mark split back x c n = sym (ap (λ (a : Bool). not a && (not (in_raw (kept back)) && ((x.c == 41) || (split && (x.c == 124))))) c) ∙ n

pub record Stood (split : Bool) (back : List Char) : Type 0 where
  pub raw : List ℕ
  pub stood : Before
  pub holds : Holds split back raw stood

pub stand : (split : Bool) (back : List Char) → is_over split back ≡ false → Stood split back
stand split [] o = record { raw = []; stood = nothing_before; holds = begun split }
stand split (x ∷ back) o =
    let f = or_parts (is_end split (point back x)) (is_over split back) o in
    go f.0 (stand split back f.1) (is_comment (point back x)) refl (is_viable gabc (kept_with (point back x))) refl
  where
    go : is_end split (point back x) ≡ false → Stood split back → (c : Bool) → is_comment (point back x) ≡ c → (v : Bool) → is_viable gabc (kept_with (point back x)) ≡ v → Stood split (x ∷ back)
    go n s true c v w = record {
      raw = s.raw;
      stood = record s.stood { comment = true };
      holds = unkept split back s.raw s.stood x true s.holds (ap (λ (a : Bool). not a && is_viable gabc (kept_with (point back x))) c) (kept_same back x c) n c;
    }
    go n s false c false w = record {
      raw = s.raw;
      stood = record s.stood { comment = false };
      holds = unkept split back s.raw s.stood x false s.holds (ap (λ (a : Bool). not a && is_viable gabc (kept_with (point back x))) c ∙ w)
          (kept_more back x c ∙ ap (λ (a : Bool). cond a (kept_with (point back x)) (kept back)) w) n c;
    }
    go n s false c true w = record {
      raw = raw_with (char_facts (kept back) s.raw x.c) s.raw x.c;
      stood = before_in Keep s.stood (char_facts (kept back) s.raw x.c) x;
      holds = kept_holds split back s.raw s.stood x (record { holds = s.holds; plain = c; going = n; viable = w });
    }

-- ---- the items

some_kept : (T : Option ItemText → Bool) (a b : Bool) (i : Option ItemText) → T None ≡ false → T (cond a (cond b i None) None) ≡ true → (a ≡ true) × (b ≡ true)
some_kept T a b i n e = grind arith

-- an item that ends at a point makes a snippet
item_snippet : (T : Option ItemText → Bool) (p : Point) → T None ≡ false → T (item_at p) ≡ true → is_snippet gabc (kept_with p) ≡ true
item_snippet T p n e = (some_kept T (is_kept p) (is_snippet gabc (kept_with p)) (last_of (items gabc (kept_with p))) n e).1

open_no_macro : (i : Option ItemText) → opens_fusion i ≡ true → macro_of i ≡ None
open_no_macro i e = grind arith

close_no_macro : (i : Option ItemText) → closes_fusion i ≡ true → macro_of i ≡ None
close_no_macro i e = grind arith

-- inside raw every character is viable
raw_goes : (s : ItemState) → raw_state s ≡ true → (c : ℕ) → is_alive (reading_of gabc machine (on s c)) ≡ true
raw_goes s r c = grind (arith, snippets_read)

raw_viable : (k : List ℕ) (c : ℕ) → in_raw k ≡ true → is_viable gabc (k ++ c ∷ []) ≡ true
raw_viable k c r =
    let snippet = snippet_from gabc refl (k ++ codes "]") (and_parts (is_snippet gabc (k ++ codes "]")) (not (is_snippet gabc k)) r).0 in
    let y = state_of gabc machine snippets_read k (codes "]", snippet) in
    let state : raw_state y.0 ≡ true = sym (raw_by k ∙ (ap raw_at (sym y.1.reads) ∙ raw_is y.0)) ∙ r in
    ap is_alive (after_char gabc machine snippets_read y.0 k c (on y.0 c) y.1 refl) ∙ raw_goes y.0 state c

-- ---- a character

-- the place from which findings are still emitted: of the bracket that is open, else of the next character
abbrev pub low : List Char → Place → Place
low back p = cond (in_raw (kept back)) (opener back) p

abbrev pub OpenerBefore : List Char → Place → Type 0
OpenerBefore back p = in_raw (kept back) ≡ true → IsEarlier (opener back) p

low_before : (back : List Char) (p : Place) → OpenerBefore back p → IsUpTo (low back p) p
low_before back p b = grind arith

-- the same place where nothing is kept
opener_same : (back : List Char) (x : Char) → is_kept (point back x) ≡ false → opener (x ∷ back) ≡ opener back
opener_same back x k = opener_more back x ∙ ap (λ (a : Bool). cond (a && not (in_raw (kept back))) x.place (opener back)) k

low_same : (back : List Char) (x : Char) (q : Place) → is_kept (point back x) ≡ false → kept (x ∷ back) ≡ kept back → low (x ∷ back) q ≡ low back q
low_same back x q k same = ap (λ (t : List ℕ). cond (in_raw t) (opener (x ∷ back)) q) same ∙ ap (λ (o : Place). cond (in_raw (kept back)) o q) (opener_same back x k)

low_grows : (back : List Char) (p q : Place) → IsEarlier p q → IsUpTo (low back p) (low back q)
low_grows back p q l = grind arith

unkept_before : (back : List Char) (x : Char) (q : Place) → is_kept (point back x) ≡ false → kept (x ∷ back) ≡ kept back → IsEarlier x.place q → OpenerBefore back x.place → OpenerBefore (x ∷ back) q
unkept_before back x q k same l b r = grind arith

-- where a character is kept
opener_kept : (back : List Char) (x : Char) → is_kept (point back x) ≡ true → opener (x ∷ back) ≡ cond (in_raw (kept back)) (opener back) x.place
opener_kept back x k = grind arith

kept_before : (back : List Char) (x : Char) (q : Place) → is_kept (point back x) ≡ true → IsEarlier x.place q → OpenerBefore back x.place → OpenerBefore (x ∷ back) q
kept_before back x q k l b r = grind arith

low_kept : (back : List Char) (x : Char) (q : Place) → is_kept (point back x) ≡ true → IsEarlier x.place q → OpenerBefore back x.place → IsUpTo (low back x.place) (low (x ∷ back) q)
low_kept back x q k l b = subst (λ (o : Place). IsUpTo (low back x.place) (cond (in_raw (kept (x ∷ back))) o q)) (sym (opener_kept back x k)) (go (in_raw (kept back)) refl (in_raw (kept (x ∷ back))))
  where
    go : (s : Bool) → in_raw (kept back) ≡ s → (a : Bool) → IsUpTo (cond s (opener back) x.place) (cond a (cond s (opener back) x.place) q)
    go s e a = grind arith

-- an item that uses a macro closes a bracket
pub missing_inside : (split : Bool) (macros : ℕ) (back : List Char) (x : Char) → Stood split back → is_comment (point back x) ≡ false → is_end split (point back x) ≡ false
    → is_viable gabc (kept_with (point back x)) ≡ true → is_missing macros (macro_of (item_at (point back x))) ≡ true → in_raw (kept back) ≡ true
missing_inside split macros back x t c n w e = by (in_raw (kept back)) _ _ (macro_is split back t.raw t.stood x (record { holds = t.holds; plain = c; going = n; viable = w }))
  where
    by : (r : Bool) (a : Bool) (d : Option ℕ) → macro_of (item_at (point back x)) ≡ cond (r && a) d None → r ≡ true
    by r a d f = grind arith

-- the findings of a character that is kept
kept_sorted : (split : Bool) (macros : ℕ) (back : List Char) (x : Char) (q : Place) (fs : List Finding) → Stood split back → is_comment (point back x) ≡ false → is_end split (point back x) ≡ false
    → is_viable gabc (kept_with (point back x)) ≡ true → IsEarlier x.place q → OpenerBefore back x.place → Sorted (low (x ∷ back) q) fs
    → Sorted (low back x.place) (findings_of (warnings macros (point back x)) ++ fs)
kept_sorted split macros back x q fs t c n w l b s = go (is_unpaired (point back x)) refl (is_missing macros (macro_of (item_at (point back x)))) refl
  where
    is : is_kept (point back x) ≡ true
    is = ap (λ (a : Bool). not a && is_viable gabc (kept_with (point back x))) c ∙ w

    same : kept (x ∷ back) ≡ kept_with (point back x)
    same = kept_more back x c ∙ ap (λ (a : Bool). cond a (kept_with (point back x)) (kept back)) w

    -- after an item nothing is emitted before the next character
    later : is_snippet gabc (kept_with (point back x)) ≡ true → Sorted q fs
    later e = grind (arith, same, point, and-false)

    mark : is_unpaired (point back x) ≡ true → (is_snippet gabc (kept_with (point back x)) ≡ true) × (macro_of (item_at (point back x)) ≡ None)
    mark e = elim (or_cases (opens_fusion (item_at (point back x)) && is_fused back) (closes_fusion (item_at (point back x)) && not (is_fused back)) e) [
      | inl h ↦ (let f = (and_parts (opens_fusion (item_at (point back x))) (is_fused back) h).0 in
          (item_snippet opens_fusion (point back x) refl f, open_no_macro (item_at (point back x)) f))
      | inr h ↦ (let f = (and_parts (closes_fusion (item_at (point back x))) (not (is_fused back)) h).0 in
          (item_snippet closes_fusion (point back x) refl f, close_no_macro (item_at (point back x)) f))
    ]

    go : (u : Bool) → is_unpaired (point back x) ≡ u → (m : Bool) → is_missing macros (macro_of (item_at (point back x))) ≡ m
        → Sorted (low back x.place) (findings_of (cond u (finding_event x.place W10 ∷ []) [] ++ cond m (finding_event (opener back) W8 ∷ []) []) ++ fs)
    go true e true f = absurd (let g = sym f ∙ ap (is_missing macros) (mark e).1 in differ g)
      where
        differ : true ≡ false → ⊥
        differ g = cc
    go true e false f = prepend (low back x.place) q (record { place = x.place; code = W10 }) fs (low_before back x.place b) l (later (mark e).0)
    go false e true f =
        let r = missing_inside split macros back x t c n w f in
        prepend (low back x.place) q (record { place = opener back; code = W8 }) fs
        (subst (λ (a : Bool). IsUpTo (cond a (opener back) x.place) (opener back)) (sym r) (up_to_self (opener back)))
        (before_then (opener back) x.place q (b r) (before_up_to x.place q l))
        (later (item_snippet (λ i. is_missing macros (macro_of i)) (point back x) refl f))
    go false e false f = weaken (low back x.place) (low (x ∷ back) q) fs (low_kept back x q is l b) s

-- the findings of the end
end_sorted : (macros : ℕ) (back : List Char) (x : Char) → in_raw (kept back) ≡ false → Sorted (low back x.place) (findings_of (at_end (point back x)) ++ [])
end_sorted macros back x r = grind arith

-- ---- all characters

abbrev pub FactsHow : Bool → ℕ → List Char → Char → Type 0
FactsHow split macros back x =
    ((is_comment (point back x) ≡ true) × (events_at split macros (point back x) ≡ []))
    ⊎ (((is_comment (point back x) ≡ false) × (is_viable gabc (kept_with (point back x)) ≡ true) × (events_at split macros (point back x) ≡ Kept x ∷ warnings macros (point back x)))
    ⊎ ((is_comment (point back x) ≡ false) × (is_viable gabc (kept_with (point back x)) ≡ false) × (events_at split macros (point back x) ≡ finding_event x.place E1 ∷ [])))

pub facts_how : (split : Bool) (macros : ℕ) (back : List Char) (x : Char) → is_over split back ≡ false → is_end split (point back x) ≡ false → FactsHow split macros back x
facts_how split macros back x o n = go (is_comment (point back x)) refl (is_viable gabc (kept_with (point back x))) refl
  where
    go : (c : Bool) → is_comment (point back x) ≡ c → (v : Bool) → is_viable gabc (kept_with (point back x)) ≡ v → FactsHow split macros back x
    go true c v w = inl (c, pick_none _ _ _ _ _ _ _ o c)
    go false c true w = inr (inl (c, w, pick_kept _ _ _ _ _ _ _ o c (plain_mark split back x c n) w))
    go false c false w = inr (inr (c, w, pick_left _ _ _ _ _ _ _ o c (plain_mark split back x c n) w))

-- the findings of a character and of those that follow it
one_sorted : (split : Bool) (macros : ℕ) (back xs : List Char) (x : Char) (q : Place) → is_over split back ≡ false → IsEarlier x.place q → OpenerBefore back x.place
    → (OpenerBefore (x ∷ back) q → Sorted (low (x ∷ back) q) (findings_of (concat_of (note_events_after split macros (x ∷ back) xs))))
    → Sorted (low back x.place) (findings_of (events_at split macros (point back x)) ++ findings_of (concat_of (note_events_after split macros (x ∷ back) xs)))
one_sorted split macros back xs x q o l b F = elim (is_emitted split macros back x o) [
  | inl n ↦ going n (facts_how split macros back x o n)
  | inr h ↦ ended h.0 h.1
]
  where
    ended : is_end split (point back x) ≡ true → events_at split macros (point back x) ≡ at_end (point back x)
        → Sorted (low back x.place) (findings_of (events_at split macros (point back x)) ++ findings_of (concat_of (note_events_after split macros (x ∷ back) xs)))
    ended e f = grind (arith, over_joined, more_over, not-true, and_parts, point, end_sorted)

    going : is_end split (point back x) ≡ false → FactsHow split macros back x
        → Sorted (low back x.place) (findings_of (events_at split macros (point back x)) ++ findings_of (concat_of (note_events_after split macros (x ∷ back) xs)))
    going n (inl h) =
        let k : is_kept (point back x) ≡ false = ap (λ (a : Bool). not a && is_viable gabc (kept_with (point back x))) h.0 in
        let same = kept_same back x h.0 in
        subst (λ (a : List NoteEvent). Sorted (low back x.place) (findings_of a ++ findings_of (concat_of (note_events_after split macros (x ∷ back) xs)))) (sym h.1)
        (weaken (low back x.place) (low (x ∷ back) q) _ (subst (λ (r : Place). IsUpTo (low back x.place) r) (sym (low_same back x q k same)) (low_grows back x.place q l))
        (F (unkept_before back x q k same l b)))
    going n (inr (inl h)) =
        let k : is_kept (point back x) ≡ true = ap (λ (a : Bool). not a && is_viable gabc (kept_with (point back x))) h.0 ∙ h.1 in
        subst (λ (a : List NoteEvent). Sorted (low back x.place) (findings_of a ++ findings_of (concat_of (note_events_after split macros (x ∷ back) xs)))) (sym h.2)
        (kept_sorted split macros back x q _ (stand split back o) h.0 n h.1 l b (F (kept_before back x q k l b)))
    going n (inr (inr h)) =
        let k : is_kept (point back x) ≡ false = ap (λ (a : Bool). not a && is_viable gabc (kept_with (point back x))) h.0 ∙ h.1 in
        let same : kept (x ∷ back) ≡ kept back = kept_more back x h.0 ∙ ap (λ (a : Bool). cond a (kept_with (point back x)) (kept back)) h.1 in
        let out : in_raw (kept back) ≡ false = outside (in_raw (kept back)) refl h.1 in
        subst (λ (a : List NoteEvent). Sorted (low back x.place) (findings_of a ++ findings_of (concat_of (note_events_after split macros (x ∷ back) xs)))) (sym h.2)
        (prepend (low back x.place) q (record { place = x.place; code = E1 }) _ (low_before back x.place b) l
        (subst (λ (r : Place). Sorted r (findings_of (concat_of (note_events_after split macros (x ∷ back) xs)))) (low_same back x q k same ∙ ap (λ (r : Bool). cond r (opener back) q) out)
        (F (unkept_before back x q k same l b))))
      where
        outside : (r : Bool) → in_raw (kept back) ≡ r → is_viable gabc (kept_with (point back x)) ≡ false → in_raw (kept back) ≡ false
        outside r e v = grind (arith, raw_viable)

pub events_sorted : (split : Bool) (macros : ℕ) (t : List ℕ) (back : List Char) (p : Place) → OpenerBefore back p
    → Sorted (low back p) (findings_of (concat_of (note_events_after split macros back (placed_characters_from p t))))
events_sorted split macros [] back p b = grind (arith, over_joined, no_findings, cut_outs)
events_sorted split macros (c ∷ t) back p b = go (is_over split back) refl (events_sorted split macros t (record { c = c; place = p } ∷ back) (next_place p c))
  where
    go : (o : Bool) → is_over split back ≡ o
        → (OpenerBefore (record { c = c; place = p } ∷ back) (next_place p c) → Sorted (low (record { c = c; place = p } ∷ back) (next_place p c)) (findings_of (concat_of (note_events_after split macros (record { c = c; place = p } ∷ back) (placed_characters_from (next_place p c) t)))))
        → Sorted (low back p) (findings_of (concat_of (note_events_after split macros back (placed_characters_from p (c ∷ t)))))
    go true o F = subst (λ (l : List NoteEvent). Sorted (low back p) (findings_of l)) (sym (over_joined split macros back (placed_characters_from p (c ∷ t)) o)) (no_findings (low back p))
    go false o F =
        subst (Sorted (low back p)) (sym (findings_append (events_at split macros (point back (record { c = c; place = p }))) (concat_of (note_events_after split macros (record { c = c; place = p } ∷ back) (placed_characters_from (next_place p c) t)))))
        (one_sorted split macros back (placed_characters_from (next_place p c) t) (record { c = c; place = p }) (next_place p c) o (before_next p c) b F)

-- of a whole text
pub all_in_order : (at : Place) (split : Bool) (macros : ℕ) (t : List ℕ) → AreInOrder (findings_of (concat_of (note_events split macros (placed_characters_from at t))))
unfolding note_events
all_in_order at split macros t = grind (arith, events_sorted)
