-- The reading of regular snippets: where it goes on each character is kept and nothing is found, and where it does not, what begins so is not regular.
use Rattle.std.proofs.Common.{◌≡◌, ℕ, List, [], ◌∷◌, ◌++◌, Bool, true, false, cond, not, ◌&&◌, ◌||◌, ◌==◌, refl, sym, ap, ◌∙◌, Option, Some, None, is_some, append_assoc, if◌then◌else◌, arith}
use Rattle.std.proofs.lemmas.List.{append_cancel_left, map-append}
use Rattle.std.proofs.lemmas.Bool.{not-true, and_parts}
use Rattle.gabc_places.specs.declared.place.Char.{Char}
use Rattle.gabc_places.specs.declared.place.Place.{Place}
use Rattle.gabc_places.specs.Place.{next_place, place_past, placed_characters_from}
use Rattle.gabc_places.specs.StageLaw.{silence}
use Rattle.gabc_places.proofs.PlacesOfAText.{placed_append}
use Rattle.gabc_patterns.specs.LongestItems.{IsSnippet}
use Rattle.gabc_patterns.specs.Derivative.{is_viable}
use Rattle.gabc_patterns.proofs.FunctionsMeetRelations.{snippet_decides, trim_snippet}
use Rattle.gabc_patterns.proofs.StatesAfterTexts.{whole_is, whole_at as snippet_at}
use Rattle.gabc_notes.specs.Table.{gabc}
use Rattle.gabc_notes.specs.Ends.{IsMarkOf}
use Rattle.gabc_notes.specs.Events.{bytes_of, end_by_mark, note_events}
use Rattle.gabc_notes.specs.Regular.{IsRegular, each_kept, only_kept}
use Rattle.gabc_notes.specs.machine.CharClass.{class_of_character}
use Rattle.gabc_notes.specs.machine.ItemMachine.{next_state, raw_state, whole_at, facts_by_states, stage_after}
use Rattle.gabc_notes.specs.machine.Regular.{RegularState, warns_at, regular_at, regular_by, regular_after, ends_regularly}
use Rattle.gabc_notes.specs.machine.StageAfter.{fresh_stage}
use Rattle.gabc_notes.specs.witness.ItemMachine.{events_left}
use Rattle.gabc_notes.specs.witness.StageEvents.{role_in, warning_in, events_in, event_list}
use Rattle.gabc_notes.specs.declared.macro_prefix.MacroPrefix.TheVariants.{Closed}
use Rattle.gabc_notes.specs.declared.stage.Before.{Before}
use Rattle.gabc_notes.specs.declared.stage.CharFacts.{CharFacts}
use Rattle.gabc_notes.specs.declared.stage.CharRole.{CharRole}
use Rattle.gabc_notes.specs.declared.stage.CharRole.TheVariants.{Comment, Ends, Keep}
use Rattle.gabc_notes.specs.declared.stage.NoteEnd.{NoteEnd}
use Rattle.gabc_notes.specs.declared.stage.NoteEnd.TheVariants.{Close}
use Rattle.gabc_notes.specs.declared.stage.NoteEvent.{NoteEvent}
use Rattle.gabc_notes.specs.declared.stage.NoteEvent.TheVariants.{Kept, Ended}
use Rattle.gabc_notes.specs.declared.stage.NoteStage.{NoteStage}
use Rattle.gabc_notes.specs.declared.state.ItemState.{ItemState}
use Rattle.gabc_notes.specs.declared.state.ItemState.TheVariants.{Start}
use Rattle.gabc_notes.proofs.grammar.SnippetIsReadAgain.{IsPlain, plain_outside}
use Rattle.gabc_notes.proofs.machine.FreshStageEmitsEventsByPoint.{fresh_says}
use Rattle.gabc_notes.proofs.machine.MachineReadsTable.{machine, snippets_read}
use Rattle.gabc_notes.proofs.machine.ShortWays.{kept_taken, emits_otherwise}
use Rattle.gabc_notes.proofs.machine.StageEmitsItsEvents.{push_law, not_kept}
use Rattle.gabc_notes.proofs.resuming.StagesKeep.{After, fresh_after, kept_one, raw_after_text, viable_after}

-- ---- one character

-- a stage as the reading sees it
abbrev pub seen : NoteStage → RegularState
seen st = record { item = st.state; name = st.name; fused = st.before.fused }

-- outside raw a plain character ends nothing and begins no comment
keeps_plain : (split raw : Bool) (c : ℕ) → (raw ≡ false → IsPlain c) → cond (not raw && ((c == 41) || (split && (c == 124)))) Ends (cond (not raw && (c == 37)) Comment Keep) ≡ Keep
keeps_plain split raw c f = grind arith

-- the reading warns wherever a stage does
silent : (macros : ℕ) (b : Before) (e : CharFacts) (x : Char)
    → (if e.raw then e.attribute && is_some e.digit else ((x.c == 91) && (not e.raw_after && b.fused)) || ((x.c == 93) && not b.fused)) ≡ false → warning_in macros b e x ≡ None
silent macros b e x h = grind arith

-- and a stage without macros warns wherever the reading does
warned : (b : Before) (e : CharFacts) (x : Char) → warning_in 0 b e x ≡ None
    → (if e.raw then e.attribute && is_some e.digit else ((x.c == 91) && (not e.raw_after && b.fused)) || ((x.c == 93) && not b.fused)) ≡ false
warned b e x h = grind arith

-- ---- a text that is regular so far

-- A stage has read it, wherever it stood: each character was kept, and nothing else emitted. The reading stands where that stage does.
pub record ReadsSo (split : Bool) (macros : ℕ) (at : Place) (t : List ℕ) (r : RegularState) : Type 0 where
  pub st : NoteStage
  pub after : After split macros st t
  pub no_comment : st.before.comment ≡ false
  pub is : r ≡ seen st
  pub events : (xs : List Char) → note_events split macros (placed_characters_from at t ++ xs) ≡ each_kept (placed_characters_from at t) ++ events_left st xs

abbrev pub Reads : List ℕ → RegularState → Type 0
Reads t r = (split : Bool) (macros : ℕ) (at : Place) → ReadsSo split macros at t r

pub reads_first : Reads [] (record { item = Start; name = Closed; fused = false })
reads_first split macros at = record {
  st = fresh_stage split macros;
  after = fresh_after split macros;
  no_comment = refl;
  is = refl;
  events = λ xs. sym (fresh_says split macros xs);
}

module _ (split : Bool) (macros : ℕ) (at : Place) (t : List ℕ) (c : ℕ) (st : NoteStage) (h : After split macros st t) (comment : st.before.comment ≡ false) where
  abbrev x : Char
  x = record { c = c; place = place_past at t }

  -- it is kept where the item goes on
  role_keeps : (z : ItemState) → next_state st.state (class_of_character c) ≡ Some z → role_in st.split st.before.comment (facts_by_states st.state (Some z) st.name) c ≡ Keep
  role_keeps z n =
      ap (λ (b : Bool). role_in st.split b (facts_by_states st.state (Some z) st.name) c) comment
      ∙ keeps_plain st.split (raw_state st.state) c (λ r. plain_outside t c viable (sym (raw_after_text split macros st t h) ∙ r))
    where
      viable : is_viable gabc (t ++ c ∷ []) ≡ true
      viable = sym (viable_after split macros st t h c) ∙ ap is_some n

  abbrev st_after : ItemState → NoteStage
  st_after z = stage_after st Keep (facts_by_states st.state (Some z) st.name) (Some z) x

  goes_on_to : (z : ItemState) → next_state st.state (class_of_character c) ≡ Some z → warns_at (seen st) z c ≡ false → (xs : List Char)
      → events_left st (x ∷ xs) ≡ (Kept x ∷ []) ∷ events_left (st_after z) xs
  goes_on_to z n w xs =
      kept_taken st (st_after z) x (Some z) (facts_by_states st.state (Some z) st.name) (role_in st.split st.before.comment (facts_by_states st.state (Some z) st.name) c)
      (warning_in st.macros st.before (facts_by_states st.state (Some z) st.name) x) xs h.goes_on (sym n) refl refl (role_keeps z n) refl
      (silent st.macros st.before (facts_by_states st.state (Some z) st.name) x w)
      (ap (λ (r : CharRole). stage_after st r (facts_by_states st.state (Some z) st.name) (Some z) x) (sym (role_keeps z n)))

-- a character more
more : (split : Bool) (macros : ℕ) (at : Place) (t : List ℕ) (r after : RegularState) (c : ℕ) → ReadsSo split macros at t r → regular_after r c ≡ Some after → ReadsSo split macros at (t ++ c ∷ []) after
more split macros at t r after c h e = by (next_state h.st.state (class_of_character c)) refl (ap (λ (q : RegularState). regular_after q c) (sym h.is) ∙ e)
  where
    x : Char
    x = record { c = c; place = place_past at t }

    placed : placed_characters_from at (t ++ c ∷ []) ≡ placed_characters_from at t ++ x ∷ []
    placed = placed_append at t (c ∷ [])

    by : (o : Option ItemState) → next_state h.st.state (class_of_character c) ≡ o → regular_after (seen h.st) c ≡ Some after → ReadsSo split macros at (t ++ c ∷ []) after
    by None n g = (let f : regular_by (seen h.st) c None ≡ Some after = ap (regular_by (seen h.st) c) (sym n) ∙ g in absurd (cc))
    by (Some z) n g = to (warns_at (seen h.st) z c) refl (ap (regular_by (seen h.st) c) (sym n) ∙ g)
      where
        to : (w : Bool) → warns_at (seen h.st) z c ≡ w → regular_by (seen h.st) c (Some z) ≡ Some after → ReadsSo split macros at (t ++ c ∷ []) after
        to true w g = (let f : None ≡ Some after = ap (λ (b : Bool). if b then None else Some (regular_at (seen h.st) z c)) (sym w) ∙ g in absurd (cc))
        to false w g =
            (let f : Some (regular_at (seen h.st) z c) ≡ Some after = ap (λ (b : Bool). if b then None else Some (regular_at (seen h.st) z c)) (sym w) ∙ g in
            let next : NoteStage = stage_after h.st Keep (facts_by_states h.st.state (Some z) h.st.name) (Some z) x in
            record {
              st = next;
              after = kept_one split macros h.st t x z h.after n;
              no_comment = refl;
              is = cc f;
              events = λ xs.
                  ap (λ (l : List Char). note_events split macros (l ++ xs)) placed
                  ∙ (ap (note_events split macros) (append_assoc (placed_characters_from at t) (x ∷ []) xs)
                  ∙ (h.events (x ∷ xs)
                  ∙ (ap (λ (l : List (List NoteEvent)). each_kept (placed_characters_from at t) ++ l) (goes_on_to split macros at t c h.st h.after h.no_comment z n w xs)
                  ∙ (sym (append_assoc (each_kept (placed_characters_from at t)) ((Kept x ∷ []) ∷ []) (events_left next xs))
                  ∙ ap (λ (l : List (List NoteEvent)). l ++ events_left next xs) (sym (map-append only_kept (placed_characters_from at t) (x ∷ [])) ∙ ap each_kept (sym placed))))));
            })

pub reads_more : (t : List ℕ) (r after : RegularState) (c : ℕ) → Reads t r → regular_after r c ≡ Some after → Reads (t ++ c ∷ []) after
reads_more t r after c h e = λ split macros at. more split macros at t r after c (h split macros at) e

-- ---- where it may end

mark_ends : (split : Bool) (how : NoteEnd) (mark : ℕ) → IsMarkOf split how mark → end_by_mark mark ≡ how
mark_ends split how mark e = grind arith

whole_of : (s : ItemState) (o : Option ItemState) (st : NoteStage) → (facts_by_states st.state o st.name).whole ≡ whole_at st.state
whole_of s o st = grind arith

module _ (split : Bool) (macros : ℕ) (at : Place) (t : List ℕ) (r : RegularState) (h : ReadsSo split macros at t r) (how : NoteEnd) (mark : ℕ) (m : IsMarkOf split how mark) (whole : whole_at h.st.state ≡ true) where
  abbrev x_mark : Char
  x_mark = record { c = mark; place = place_past at t }

  abbrev o_mark : Option ItemState
  o_mark = next_state h.st.state (class_of_character mark)

  abbrev at_mark : List NoteEvent
  at_mark = event_list (events_in Ends h.st.macros h.st.before (facts_by_states h.st.state o_mark h.st.name) x_mark)

  emitted : note_events split macros (placed_characters_from at (t ++ mark ∷ [])) ≡ each_kept (placed_characters_from at t) ++ at_mark ∷ silence {I = Char} []
  emitted = grind (arith, placed_append)

  -- with nothing open that end is all
  plain_end : h.st.before.fused ≡ false → at_mark ≡ Ended (end_by_mark mark) h.st.before.whole ∷ []
  plain_end f = rw (whole_of h.st.state o_mark h.st ∙ whole, f) refl

  -- else something is found
  found_end : h.st.before.fused ≡ true → (how : NoteEnd) (n : ℕ) → at_mark ≡ Ended how n ∷ [] → ⊥
  found_end f other n e = grind arith

pub reads_regular : (t : List ℕ) (r : RegularState) → Reads t r → ends_regularly r ≡ true → IsRegular t
reads_regular t r h e = record {
  snippet = is;
  events = λ split macros at how mark m.
      let g = h split macros at in
      let w = whole g in
      emitted split macros at t r g how mark m w.0
      ∙ ap (λ (l : List NoteEvent). each_kept (placed_characters_from at t) ++ l ∷ ([] ∷ []))
      (plain_end split macros at t r g how mark m w.0 w.1
      ∙ ap (λ (k : NoteEnd). Ended k g.st.before.whole ∷ []) (mark_ends split how mark m)
      ∙ ap (λ (n : ℕ). Ended how n ∷ []) (g.after.whole ∙ ap bytes_of (trim_snippet gabc refl t is)));
}
  where
    whole : {split : Bool} {macros : ℕ} {at : Place} → (g : ReadsSo split macros at t r) → (whole_at g.st.state ≡ true) × (g.st.before.fused ≡ false)
    whole g = (let b = and_parts (whole_at g.st.state) (not g.st.before.fused) (ap ends_regularly (sym g.is) ∙ e) in (b.0, not-true g.st.before.fused b.1))

    is : IsSnippet gabc t
    is = (let g = h false 0 (record { line = 1; column = 1 }) in snippet_at gabc machine snippets_read g.st.state t g.after.stands (whole g).0)

-- ---- where it may not, and where it does not go on

abbrev start_place : Place
start_place = record { line = 1; column = 1 }

pub regular_ends : (t : List ℕ) (r : RegularState) → Reads t r → IsRegular t → ends_regularly r ≡ true
regular_ends t r h i = ap ends_regularly g.is ∙ (ap (λ (b : Bool). b && not g.st.before.fused) whole ∙ ap not (by g.st.before.fused refl))
  where
    g : ReadsSo true 0 start_place t r
    g = h true 0 start_place

    whole : whole_at g.st.state ≡ true
    whole = sym (whole_is gabc machine snippets_read g.st.state t g.after.stands) ∙ (snippet_decides gabc refl t).1 i.snippet

    alone : at_mark true 0 start_place t r g Close 41 refl whole ≡ Ended Close (bytes_of t) ∷ []
    alone =
        (let same : at_mark true 0 start_place t r g Close 41 refl whole ∷ silence {I = Char} [] ≡ (Ended Close (bytes_of t) ∷ []) ∷ ([] ∷ []) =
        append_cancel_left (each_kept (placed_characters_from start_place t)) _ _ (sym (emitted true 0 start_place t r g Close 41 refl whole) ∙ i.events true 0 start_place Close 41 refl) in cc same)

    by : (b : Bool) → g.st.before.fused ≡ b → b ≡ false
    by b f = grind (arith, found_end, g, whole, alone)

-- a text that goes on where the reading does not is not regular
pub stuck_there : (t u : List ℕ) (c : ℕ) (r : RegularState) → Reads t r → regular_after r c ≡ None → IsRegular (t ++ c ∷ u) → ⊥
stuck_there t u c r h e i = emits_otherwise role g.st.macros g.st.before facts x (warning_in g.st.macros g.st.before facts x) refl never first
  where
    g : ReadsSo true 0 start_place t r
    g = h true 0 start_place

    x : Char
    x = record { c = c; place = place_past start_place t }

    o : Option ItemState
    o = next_state g.st.state (class_of_character c)

    facts : CharFacts
    facts = facts_by_states g.st.state o g.st.name

    role : CharRole
    role = role_in g.st.split g.st.before.comment facts c

    later : List Char
    later = placed_characters_from (next_place (place_past start_place t) c) (u ++ 41 ∷ [])

    text : placed_characters_from start_place ((t ++ c ∷ u) ++ 41 ∷ []) ≡ placed_characters_from start_place t ++ x ∷ later
    text = ap (placed_characters_from start_place) (append_assoc t (c ∷ u) (41 ∷ [])) ∙ placed_append start_place t (c ∷ (u ++ 41 ∷ []))

    kept : each_kept (placed_characters_from start_place (t ++ c ∷ u)) ≡ each_kept (placed_characters_from start_place t) ++ (Kept x ∷ []) ∷ each_kept (placed_characters_from (next_place (place_past start_place t) c) u)
    kept = ap each_kept (placed_append start_place t (c ∷ u)) ∙ map-append only_kept (placed_characters_from start_place t) (x ∷ placed_characters_from (next_place (place_past start_place t) c) u)

    rest : List (List NoteEvent)
    rest = each_kept (placed_characters_from (next_place (place_past start_place t) c) u) ++ (Ended Close (bytes_of (t ++ c ∷ u)) ∷ []) ∷ ([] ∷ [])

    both_ways : events_left g.st (x ∷ later) ≡ (Kept x ∷ []) ∷ rest
    both_ways = append_cancel_left (each_kept (placed_characters_from start_place t)) _ _
        (sym (g.events (x ∷ later)) ∙ (ap (note_events true 0) (sym text) ∙ (i.events true 0 start_place Close 41 refl
        ∙ (ap (λ (l : List (List NoteEvent)). l ++ (Ended Close (bytes_of (t ++ c ∷ u)) ∷ []) ∷ ([] ∷ [])) kept
        ∙ append_assoc (each_kept (placed_characters_from start_place t)) ((Kept x ∷ []) ∷ each_kept (placed_characters_from (next_place (place_past start_place t) c) u)) ((Ended Close (bytes_of (t ++ c ∷ u)) ∷ []) ∷ ([] ∷ []))))))

    first : event_list (events_in role g.st.macros g.st.before facts x) ≡ Kept x ∷ []
    first = (let same = sym (push_law g.st x later o facts role g.after.goes_on refl refl refl) ∙ both_ways in cc same)

    never : role ≡ Keep → warning_in g.st.macros g.st.before facts x ≡ None → ⊥
    never keep none = by o refl keep none (ap (λ (q : RegularState). regular_after q c) (sym g.is) ∙ e)
      where
        by : (p : Option ItemState) → o ≡ p → role ≡ Keep → warning_in g.st.macros g.st.before facts x ≡ None → regular_after (seen g.st) c ≡ None → ⊥
        by None n k w f = not_kept g.st.split g.st.before.comment g.st.state g.st.name c (ap (λ (q : Option ItemState). role_in g.st.split g.st.before.comment (facts_by_states g.st.state q g.st.name) c) (sym n) ∙ k)
        by (Some z) n k w f =
            (let quiet : warns_at (seen g.st) z c ≡ false =
            warned g.st.before (facts_by_states g.st.state (Some z) g.st.name) x
            (ap (λ (d : ℕ). warning_in d g.st.before (facts_by_states g.st.state (Some z) g.st.name) x) (sym g.after.defines)
            ∙ (ap (λ (q : Option ItemState). warning_in g.st.macros g.st.before (facts_by_states g.st.state q g.st.name) x) (sym n) ∙ w)) in
            let on : Some (regular_at (seen g.st) z c) ≡ None =
            ap (λ (b : Bool). if b then None else Some (regular_at (seen g.st) z c)) (sym quiet) ∙ (ap (regular_by (seen g.st) c) (sym n) ∙ f) in cc)
