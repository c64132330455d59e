-- What a fresh stage emits is what the definition says of the characters by those before them.
use Rattle.std.proofs.Common.{◌≡◌, ℕ, inl, inr, List, [], ◌∷◌, ◌++◌, Bool, true, false, cond, not, ◌&&◌, ◌||◌, ◌==◌, refl, sym, ap, ◌∙◌, subst, Option, Some, None, option_to_list, append_assoc, eqb-true, arith}
use Rattle.gabc_places.specs.declared.code.Code.TheVariants.{E1, W8, W10}
use Rattle.gabc_places.specs.declared.place.Char.{Char}
use Rattle.gabc_places.specs.StageLaw.{silence}
use Rattle.gabc_places.specs.declared.place.Place.{Place}
use Rattle.gabc_patterns.specs.LongestItems.{IsSnippet, IsViable}
use Rattle.gabc_patterns.specs.Derivative.{Munch, is_alive, is_snippet, is_viable}
use Rattle.gabc_patterns.specs.Function.{trim}
use Rattle.gabc_patterns.proofs.PartsOfNothing.{append_none}
use Rattle.gabc_patterns.proofs.FunctionsMeetRelations.{viable_decides}
use Rattle.gabc_patterns.proofs.LongestPrefixIsOne.{split_push}
use Rattle.gabc_patterns.proofs.StatesAfterTexts.{Stands, state_of, after_char}
use Rattle.gabc_notes.specs.Table.{gabc}
use Rattle.gabc_notes.specs.machine.ItemMachine.{whole_at, raw_state, attribute_state}
use Rattle.gabc_notes.specs.witness.StageEvents.{ends_with_attribute, kind_at, is_attribute_kind, macro_digit, char_facts, role_in, before_in, fused_in, events_in, warning_in, event_list, raw_with, count_plus, cut_event, events_following, events_after}
use Rattle.gabc_notes.specs.machine.StageEvents.{nothing_before}
use Rattle.gabc_notes.specs.Events.{in_raw, finding_event, is_missing, ends_in_comment, with_comments, kept, is_comment, kept_with, is_kept, last_item, item_at, opens_fusion, closes_fusion, macro_of, is_fused, opener, bytes_of, is_end, is_over, is_unpaired, warnings, at_end, events_at, cut_events, note_events_after, note_events}
use Rattle.gabc_notes.specs.declared.item.ItemKind.{ItemKind}
use Rattle.gabc_notes.specs.declared.stage.Before.{Before}
use Rattle.gabc_notes.specs.declared.stage.NoteEnd.TheVariants.{Cut}
use Rattle.gabc_notes.specs.declared.stage.NoteEvent.{NoteEvent}
use Rattle.gabc_notes.specs.declared.stage.NoteEvent.TheVariants.{Kept, Ended}
use Rattle.gabc_notes.specs.declared.stage.CharRole.{CharRole}
use Rattle.gabc_notes.specs.declared.stage.CharRole.TheVariants.{Silent, Comment, Ends, Keep, LeaveOut}
use Rattle.gabc_notes.specs.declared.state.ItemState.{ItemState}
use Rattle.gabc_notes.proofs.machine.MachineReadsTable.{machine, snippets_read}
use Rattle.gabc_notes.proofs.machine.StageEmitsItsEvents.{raw_is, attribute_is}
use Rattle.gabc_notes.proofs.grammar.InsideRawIsAnOpenBracket.{on, step_in}
use Rattle.gabc_notes.proofs.machine.EventsDependOnState.{raw_at, raw_by}
use Rattle.gabc_notes.proofs.items_of_text.ItemByStates.{Steps, RawFrom, ItemIs, item_is}
use Rattle.gabc_notes.proofs.machine.OneCharacterMore.{point, kept_more, kept_same, fused_more, bytes_more, trim_more, RoleIs, role_is, no_percent, no_feed, pick_none, pick_end, pick_kept, pick_left}

-- ---- what stands before a character

pub record Holds (split : Bool) (back : List Char) (raw : List ℕ) (b : Before) : Type 0 where
  pub comment : b.comment ≡ ends_in_comment (with_comments back)
  pub place : b.place ≡ opener back
  pub fused : b.fused ≡ is_fused back
  pub bytes : b.kept ≡ bytes_of (kept back)
  pub whole : b.whole ≡ bytes_of (trim gabc (kept back))
  pub over : is_over split back ≡ false
  pub raw_from : in_raw (kept back) ≡ true → RawFrom (kept back) raw
  pub no_raw : in_raw (kept back) ≡ false → raw ≡ []

-- after a character that is not kept
pub unkept : (split : Bool) (back : List Char) (raw : List ℕ) (b : Before) (x : Char) (m : Bool) → Holds split back raw b → is_kept (point back x) ≡ false
    → kept (x ∷ back) ≡ kept back → is_end split (point back x) ≡ false → is_comment (point back x) ≡ m → Holds split (x ∷ back) raw (record b { comment = m })
unkept split back raw b x m h n same e f = grind arith

-- a character that is kept, by the states before and after it
pub record KeptBy (k : List ℕ) (c : ℕ) : Type 0 where
  pub from : ItemState
  pub to : ItemState
  pub steps : Steps k c from to
  pub raw : in_raw k ≡ raw_state from
  pub raw_after : in_raw (k ++ c ∷ []) ≡ raw_state to
  pub attribute : ends_with_attribute (k ++ c ∷ []) ≡ attribute_state to

pub kept_by : (k : List ℕ) (c : ℕ) → is_viable gabc (k ++ c ∷ []) ≡ true → KeptBy k c
kept_by k c v =
    let w = (viable_decides gabc refl (k ++ c ∷ [])).0 v in
    let less : IsViable gabc k = (c ∷ w.0, subst (λ (t : List ℕ). IsSnippet gabc t) (append_assoc k (c ∷ []) w.0) w.1) in
    let y = state_of gabc machine snippets_read k less in
    go y.0 y.1 (on y.0 c) refl
  where
    go : (s : ItemState) → Stands gabc machine s k → (o : Option ItemState) → on s c ≡ o → KeptBy k c
    go s h None e = absurd (let f : false ≡ true = ap is_alive (sym (after_char gabc machine snippets_read s k c None h e)) ∙ v in cc)
    go s h (Some z) e =
        let there = after_char gabc machine snippets_read s k c (Some z) h e in
        record {
          from = s;
          to = z;
          steps = record { here = h; next = e };
          raw = raw_by k ∙ (ap raw_at (sym h.reads) ∙ raw_is s);
          raw_after = raw_by (k ++ c ∷ []) ∙ (ap raw_at there ∙ raw_is z);
          attribute = ap (λ (m : Munch ItemKind). is_attribute_kind (kind_at m)) there ∙ attribute_is z;
        }

-- the tests of the item that ends with it, by raw
opens_by : (rs rz a d fu : Bool) → (rz ≡ true → d ≡ false) → cond (a && (not rs && not rz)) true (cond (d && not rs) false fu) ≡ cond (rs || rz) fu (a || (fu && not d))
opens_by rs rz a d fu f = grind arith

-- the warnings
warned : (rs rz a d fu att : Bool) (M : Option ℕ → Bool) (digit : Option ℕ) (w8 w10 : NoteEvent) → M None ≡ false
    → option_to_list (cond rs (cond (att && M digit) (Some w8) None) (cond ((a && (not rz && fu)) || (d && not fu)) (Some w10) None)) ++ []
    ≡ cond (((a && (not rs && not rz)) && fu) || ((d && not rs) && not fu)) (w10 ∷ []) [] ++ cond (M (cond (rs && att) digit None)) (w8 ∷ []) []
warned rs rz a d fu att M digit w8 w10 e = grind arith

-- raw goes on, or begins
raw_on : (k raw : List ℕ) (c : ℕ) (y : KeptBy k c) → (in_raw k ≡ true → RawFrom k raw) → (in_raw k ≡ false → raw ≡ []) → in_raw (k ++ c ∷ []) ≡ true
    → RawFrom (k ++ c ∷ []) (raw ++ c ∷ [])
raw_on k raw c y f n r = elim (step_in y.from y.to c y.steps.next (sym y.raw_after ∙ r)) [
  | inl x ↦ (let h = f (y.raw ∙ x.0) in record {
    before = h.before;
    after = h.after ++ c ∷ [];
    cut = ap (λ (t : List ℕ). t ++ c ∷ []) h.cut ∙ append_assoc h.before (91 ∷ h.after) (c ∷ []);
    raw_is = ap (λ (t : List ℕ). t ++ c ∷ []) h.raw_is;
    outside = h.outside;
    inside = λ a b e. elim (split_push h.after a b c e) [
      | inl z ↦ ap (λ (t : List ℕ). in_raw (h.before ++ 91 ∷ t)) z
          ∙ (ap in_raw (sym (ap (λ (t : List ℕ). t ++ c ∷ []) h.cut ∙ append_assoc h.before (91 ∷ h.after) (c ∷ []))) ∙ r)
      | inr z ↦ h.inside a z.0 z.1
    ];
  })
  | inr x ↦ (let out : in_raw k ≡ false = y.raw ∙ outside y.from x.1 in record {
    before = k;
    after = [];
    cut = ap (λ (d : ℕ). k ++ d ∷ []) x.0;
    raw_is = ap (λ (t : List ℕ). t ++ c ∷ []) (n out) ∙ ap (λ (d : ℕ). d ∷ []) x.0;
    outside = out;
    inside = λ a b e. ap (λ (t : List ℕ). in_raw (k ++ 91 ∷ t)) (append_none a b e).0 ∙ (ap (λ (d : ℕ). in_raw (k ++ d ∷ [])) (sym x.0) ∙ r);
  })
]
  where
    outside : (s : ItemState) → whole_at s ≡ true → raw_state s ≡ false
    outside s w = grind arith

-- no `]` leads into raw
no_close : (k : List ℕ) (c : ℕ) (y : KeptBy k c) → raw_state y.to ≡ true → c == 93 ≡ false
no_close k c y r = grind (arith, eqb-true)

-- a character that is kept, and what is known of its item
pub record KeptHere (split : Bool) (back : List Char) (raw : List ℕ) (b : Before) (x : Char) : Type 0 where
  pub holds : Holds split back raw b
  pub plain : is_comment (point back x) ≡ false
  pub going : is_end split (point back x) ≡ false
  pub viable : is_viable gabc (kept_with (point back x)) ≡ true

module _ (split : Bool) (back : List Char) (raw : List ℕ) (b : Before) (x : Char) (h : KeptHere split back raw b x) where
  by : KeptBy (kept back) x.c
  by = kept_by (kept back) x.c h.viable

  is : is_kept (point back x) ≡ true
  is = ap (λ (a : Bool). not a && is_viable gabc (kept_with (point back x))) h.plain ∙ h.viable

  item : item_at (point back x) ≡ last_item (kept back ++ x.c ∷ [])
  item = ap (λ (a : Bool). cond a (last_item (kept_with (point back x))) None) is

  events_item : ItemIs raw x.c by.from by.to (last_item (kept back ++ x.c ∷ []))
  events_item = item_is (kept back) raw x.c by.from by.to by.steps (λ r. h.holds.raw_from (by.raw ∙ r))

  opens_is : opens_fusion (item_at (point back x)) ≡ ((x.c == 91) && (not (in_raw (kept back)) && not (in_raw (kept back ++ x.c ∷ []))))
  opens_is = ap opens_fusion item ∙ (events_item.opens ∙ sym (rw (by.raw, by.raw_after) refl))

  closes_is : closes_fusion (item_at (point back x)) ≡ ((x.c == 93) && not (in_raw (kept back)))
  closes_is = ap closes_fusion item ∙ (events_item.closes ∙ sym (rw by.raw refl))

  pub macro_is : macro_of (item_at (point back x)) ≡ cond (in_raw (kept back) && ends_with_attribute (kept back ++ x.c ∷ [])) (macro_digit raw) None
  macro_is = ap macro_of item ∙ (events_item.macro ∙ sym (rw (by.raw, by.attribute) refl))

  same : kept (x ∷ back) ≡ kept back ++ x.c ∷ []
  same = kept_more back x h.plain ∙ ap (λ (a : Bool). cond a (kept_with (point back x)) (kept back)) h.viable

  whole_next : cond (is_snippet gabc (kept back ++ x.c ∷ [])) (count_plus b.kept x.c) b.whole ≡ bytes_of (trim gabc (kept (x ∷ back)))
  whole_next =
      go (is_snippet gabc (kept back ++ x.c ∷ []))
      ∙ (ap bytes_of (sym (trim_more [] [] (kept back) x.c)) ∙ ap (λ (t : List ℕ). bytes_of (trim gabc t)) (sym same))
    where
      go : (w : Bool) → cond w (count_plus b.kept x.c) b.whole ≡ bytes_of (cond w (kept back ++ x.c ∷ []) (trim gabc (kept back)))
      go w = grind (arith, bytes_more)

  fused_next : fused_in b (char_facts (kept back) raw x.c) x ≡ is_fused (x ∷ back)
  fused_next =
      ap (λ (f : Bool). cond (in_raw (kept back) || in_raw (kept back ++ x.c ∷ [])) f ((x.c == 91) || (f && not (x.c == 93)))) h.holds.fused
      ∙ (sym (opens_by (in_raw (kept back)) (in_raw (kept back ++ x.c ∷ [])) (x.c == 91) (x.c == 93) (is_fused back) (λ r. no_close (kept back) x.c by (sym by.raw_after ∙ r)))
      ∙ (ap (λ (o : Bool). cond o true (cond ((x.c == 93) && not (in_raw (kept back))) false (is_fused back))) (sym opens_is)
      ∙ (ap (λ (o : Bool). cond (opens_fusion (item_at (point back x))) true (cond o false (is_fused back))) (sym closes_is)
      ∙ sym (fused_more back x))))

  place_next : cond (in_raw (kept back)) b.place x.place ≡ opener (x ∷ back)
  place_next = grind arith

  pub kept_holds : Holds split (x ∷ back) (raw_with (char_facts (kept back) raw x.c) raw x.c) (before_in Keep b (char_facts (kept back) raw x.c) x)
  kept_holds = record {
    comment = sym h.plain;
    place = place_next;
    fused = fused_next;
    bytes = ap (λ (n : ℕ). count_plus n x.c) h.holds.bytes ∙ (sym (bytes_more (kept back) x.c) ∙ ap bytes_of (sym same));
    whole = whole_next;
    over = ap (λ (a : Bool). a || is_over split back) h.going ∙ h.holds.over;
    raw_from = λ r. (let f : in_raw (kept back ++ x.c ∷ []) ≡ true = ap in_raw (sym same) ∙ r in
        subst (λ (t : List ℕ). RawFrom t (cond (in_raw (kept back ++ x.c ∷ [])) (raw ++ x.c ∷ []) [])) (sym same)
        (subst (λ (a : Bool). RawFrom (kept back ++ x.c ∷ []) (cond a (raw ++ x.c ∷ []) [])) (sym f)
        (raw_on (kept back) raw x.c by h.holds.raw_from h.holds.no_raw f)));
    no_raw = λ r. ap (λ (a : Bool). cond a (raw ++ x.c ∷ []) []) (ap in_raw (sym same) ∙ r);
  }

  -- the warnings are those of the items
  pub kept_warns : (macros : ℕ) → option_to_list (warning_in macros b (char_facts (kept back) raw x.c) x) ++ [] ≡ warnings macros (point back x)
  kept_warns macros =
      ap (λ (f : Bool). option_to_list (cond (in_raw (kept back)) (cond (ends_with_attribute (kept back ++ x.c ∷ []) && is_missing macros (macro_digit raw)) (Some (finding_event b.place W8)) None)
      (cond (((x.c == 91) && (not (in_raw (kept back ++ x.c ∷ [])) && f)) || ((x.c == 93) && not f)) (Some (finding_event x.place W10)) None)) ++ []) h.holds.fused
      ∙ (ap (λ (q : Place). option_to_list (cond (in_raw (kept back)) (cond (ends_with_attribute (kept back ++ x.c ∷ []) && is_missing macros (macro_digit raw)) (Some (finding_event q W8)) None)
      (cond (((x.c == 91) && (not (in_raw (kept back ++ x.c ∷ [])) && is_fused back)) || ((x.c == 93) && not (is_fused back))) (Some (finding_event x.place W10)) None)) ++ []) h.holds.place
      ∙ (warned (in_raw (kept back)) (in_raw (kept back ++ x.c ∷ [])) (x.c == 91) (x.c == 93) (is_fused back) (ends_with_attribute (kept back ++ x.c ∷ [])) (is_missing macros) (macro_digit raw)
      (finding_event (opener back) W8) (finding_event x.place W10) refl
      ∙ (ap (λ (o : Bool). cond ((o && is_fused back) || (((x.c == 93) && not (in_raw (kept back))) && not (is_fused back))) (finding_event x.place W10 ∷ []) []
      ++ cond (is_missing macros (cond (in_raw (kept back) && ends_with_attribute (kept back ++ x.c ∷ [])) (macro_digit raw) None)) (finding_event (opener back) W8 ∷ []) []) (sym opens_is)
      ∙ (ap (λ (o : Bool). cond ((opens_fusion (item_at (point back x)) && is_fused back) || (o && not (is_fused back))) (finding_event x.place W10 ∷ []) []
      ++ cond (is_missing macros (cond (in_raw (kept back) && ends_with_attribute (kept back ++ x.c ∷ [])) (macro_digit raw) None)) (finding_event (opener back) W8 ∷ []) []) (sym closes_is)
      ∙ ap (λ (d : Option ℕ). cond (is_unpaired (point back x)) (finding_event x.place W10 ∷ []) [] ++ cond (is_missing macros d) (finding_event (opener back) W8 ∷ []) []) (sym macro_is)))))

-- ---- all characters

-- after the end nothing is emitted
pub over_emits : (split : Bool) (macros : ℕ) (xs back : List Char) → is_over split back ≡ true → note_events_after split macros back xs ≡ silence xs
over_emits split macros [] back e = ap (λ (o : Bool). cond o [] (Ended (Cut (cond (in_raw (kept back)) (opener back) (record { line = 0; column = 0 }))) (bytes_of (kept back)) ∷ []) ∷ []) e
over_emits split macros (x ∷ xs) back e =
    let later = over_emits split macros xs (x ∷ back) (any (is_end split (point back x)) (is_over split back) e) in
    ap (λ (l : List (List NoteEvent)). events_at split macros (point back x) ∷ l) later
    ∙ ap (λ (l : List NoteEvent). l ∷ silence xs) (none (is_over split back) _ e)
  where
    any : (a b : Bool) → b ≡ true → (a || b) ≡ true
    any a b f = grind arith

    none : (o : Bool) (l : List NoteEvent) → o ≡ true → cond o [] l ≡ []
    none o l f = rw f refl

-- the end of the snippet
mark_emits : (macros : ℕ) (back : List Char) (raw : List ℕ) (b : Before) (x : Char) → b.fused ≡ is_fused back → b.whole ≡ bytes_of (trim gabc (kept back))
    → event_list (events_in Ends macros b (char_facts (kept back) raw x.c) x) ≡ at_end (point back x)
mark_emits macros back raw b x f w = grind arith

-- the characters end before the snippet does
cut_emits : (split : Bool) (back : List Char) (raw : List ℕ) (b : Before) → Holds split back raw b → cut_event (in_raw (kept back)) b ∷ [] ≡ cut_events split back
cut_emits split back raw b h = cc

pub events_emits : (split : Bool) (macros : ℕ) (xs back : List Char) (raw : List ℕ) (b : Before) → Holds split back raw b
    → events_after split macros (kept back) raw b xs ≡ note_events_after split macros back xs
events_emits split macros [] back raw b h = ap (λ (o : List NoteEvent). o ∷ []) (cut_emits split back raw b h)
events_emits split macros (x ∷ xs) back raw b h =
    go (role_in split b.comment (char_facts (kept back) raw x.c) x.c) refl (λ r d. events_emits split macros xs (x ∷ back) r d)
  where
    roles : (r : CharRole) → role_in split b.comment (char_facts (kept back) raw x.c) x.c ≡ r
        → RoleIs r b.comment (is_comment (point back x)) (not (in_raw (kept back)) && ((x.c == 41) || (split && (x.c == 124)))) (is_viable gabc (kept back ++ x.c ∷ []))
    roles r e =
        subst (λ (q : CharRole). RoleIs q b.comment (is_comment (point back x)) (not (in_raw (kept back)) && ((x.c == 41) || (split && (x.c == 124)))) (is_viable gabc (kept back ++ x.c ∷ []))) e
        (subst (λ (m : Bool). RoleIs (role_in split b.comment (char_facts (kept back) raw x.c) x.c) b.comment (not (x.c == 10) && (m || (not (in_raw (kept back)) && (x.c == 37))))
        (not (in_raw (kept back)) && ((x.c == 41) || (split && (x.c == 124)))) (is_viable gabc (kept back ++ x.c ∷ []))) h.comment
        (role_is b.comment (not (x.c == 10)) (not (in_raw (kept back)) && ((x.c == 41) || (split && (x.c == 124)))) (not (in_raw (kept back)) && (x.c == 37)) (is_viable gabc (kept back ++ x.c ∷ []))
        (no_percent (in_raw (kept back)) split x.c) (no_feed (in_raw (kept back)) x.c)))

    -- of a character that is not kept
    left : (d : Before) (emitted : List NoteEvent) → kept (x ∷ back) ≡ kept back → Holds split (x ∷ back) raw d → emitted ≡ events_at split macros (point back x)
        → ((r : List ℕ) (d : Before) → Holds split (x ∷ back) r d → events_after split macros (kept (x ∷ back)) r d xs ≡ note_events_after split macros (x ∷ back) xs)
        → emitted ∷ events_after split macros (kept back) raw d xs ≡ events_at split macros (point back x) ∷ note_events_after split macros (x ∷ back) xs
    left d emitted same holds g F = grind arith

    no_end : is_comment (point back x) ≡ true → is_end split (point back x) ≡ false
    no_end c = ap (λ (a : Bool). not a && (not (in_raw (kept back)) && ((x.c == 41) || (split && (x.c == 124))))) c

    not_kept : is_comment (point back x) ≡ true → is_kept (point back x) ≡ false
    not_kept c = ap (λ (a : Bool). not a && is_viable gabc (kept back ++ x.c ∷ [])) c

    go : (r : CharRole) → role_in split b.comment (char_facts (kept back) raw x.c) x.c ≡ r
        → ((r : List ℕ) (d : Before) → Holds split (x ∷ back) r d → events_after split macros (kept (x ∷ back)) r d xs ≡ note_events_after split macros (x ∷ back) xs)
        → event_list (events_in r macros b (char_facts (kept back) raw x.c) x)
        ∷ events_following r (silence xs) (events_after split macros (kept back ++ x.c ∷ []) (raw_with (char_facts (kept back) raw x.c) raw x.c) (before_in r b (char_facts (kept back) raw x.c) x) xs)
        (events_after split macros (kept back) raw (before_in r b (char_facts (kept back) raw x.c) x) xs)
        ≡ events_at split macros (point back x) ∷ note_events_after split macros (x ∷ back) xs
    go Silent e F =
        let R = roles Silent e in
        left b [] (kept_same back x R.0)
        (subst (λ (d : Before). Holds split (x ∷ back) raw d) (ap (λ (m : Bool). record b { comment = m }) (sym R.1))
        (unkept split back raw b x true h (not_kept R.0) (kept_same back x R.0) (no_end R.0) R.0))
        (sym (pick_none _ _ _ _ _ _ _ h.over R.0)) F
    go Comment e F =
        let R : is_comment (point back x) ≡ true = roles Comment e in
        left (record b { comment = true }) [] (kept_same back x R) (unkept split back raw b x true h (not_kept R) (kept_same back x R) (no_end R) R)
        (sym (pick_none _ _ _ _ _ _ _ h.over R)) F
    go Ends e F =
        let R = roles Ends e in
        let ended : is_end split (point back x) ≡ true = ap (λ (a : Bool). not a && (not (in_raw (kept back)) && ((x.c == 41) || (split && (x.c == 124))))) R.0 ∙ R.1 in
        ap (λ (l : List NoteEvent). l ∷ silence xs) (mark_emits macros back raw b x h.fused h.whole ∙ sym (pick_end _ _ _ _ _ _ _ h.over R.0 R.1))
        ∙ ap (λ (l : List (List NoteEvent)). events_at split macros (point back x) ∷ l) (sym (over_emits split macros xs (x ∷ back) (ap (λ (a : Bool). a || is_over split back) ended)))
    go LeaveOut e F =
        let R = roles LeaveOut e in
        let same : kept (x ∷ back) ≡ kept back = kept_more back x R.0 ∙ ap (λ (a : Bool). cond a (kept back ++ x.c ∷ []) (kept back)) R.2 in
        left (record b { comment = false }) (finding_event x.place E1 ∷ []) same
        (unkept split back raw b x false h (ap (λ (a : Bool). not a && is_viable gabc (kept back ++ x.c ∷ [])) R.0 ∙ R.2) same
        (ap (λ (a : Bool). not a && (not (in_raw (kept back)) && ((x.c == 41) || (split && (x.c == 124))))) R.0 ∙ R.1) R.0)
        (sym (pick_left _ _ _ _ _ _ _ h.over R.0 R.1 R.2)) F
    go Keep e F =
        let R = roles Keep e in
        let here : KeptHere split back raw b x = record {
          holds = h;
          plain = R.0;
          going = ap (λ (a : Bool). not a && (not (in_raw (kept back)) && ((x.c == 41) || (split && (x.c == 124))))) R.0 ∙ R.1;
          viable = R.2;
        } in
        let same : kept (x ∷ back) ≡ kept back ++ x.c ∷ [] = kept_more back x R.0 ∙ ap (λ (a : Bool). cond a (kept back ++ x.c ∷ []) (kept back)) R.2 in
        ap (λ (l : List NoteEvent). (Kept x ∷ l) ∷ events_after split macros (kept back ++ x.c ∷ []) (raw_with (char_facts (kept back) raw x.c) raw x.c) (before_in Keep b (char_facts (kept back) raw x.c) x) xs)
        (kept_warns split back raw b x here macros)
        ∙ (ap (λ (l : List NoteEvent). l ∷ events_after split macros (kept back ++ x.c ∷ []) (raw_with (char_facts (kept back) raw x.c) raw x.c) (before_in Keep b (char_facts (kept back) raw x.c) x) xs)
        (sym (pick_kept _ _ _ _ _ _ _ h.over R.0 R.1 R.2))
        ∙ (ap (λ (t : List ℕ). events_at split macros (point back x) ∷ events_after split macros t (raw_with (char_facts (kept back) raw x.c) raw x.c) (before_in Keep b (char_facts (kept back) raw x.c) x) xs) (sym same)
        ∙ ap (λ (l : List (List NoteEvent)). events_at split macros (point back x) ∷ l) (F _ _ (kept_holds split back raw b x here))))

-- before the first character
pub begun : (split : Bool) → Holds split [] [] nothing_before
begun split = grind arith

-- so a fresh stage emits what the definition says
pub fresh_says : (split : Bool) (macros : ℕ) (xs : List Char) → events_after split macros [] [] nothing_before xs ≡ note_events split macros xs
unfolding note_events
fresh_says split macros xs = events_emits split macros xs [] [] nothing_before (begun split)
