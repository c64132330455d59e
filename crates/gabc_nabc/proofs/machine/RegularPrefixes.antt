-- The reading of regular NABC snippets: where it goes on each character is kept and nothing is found, and where it does not, what begins so is not regular.
use Rattle.std.proofs.Common.{arith, ◌≡◌, ℕ, List, [], ◌∷◌, ◌++◌, Bool, true, false, refl, sym, ap, subst, ◌∙◌, Option, Some, None, append_assoc, if◌then◌else◌}
use Rattle.std.proofs.lemmas.List.{append_cancel_left, map-append}
use Rattle.gabc_places.specs.declared.code.Code.TheVariants.{W7}
use Rattle.gabc_places.specs.declared.place.Char.{Char}
use Rattle.gabc_places.specs.declared.place.Place.{Place}
use Rattle.gabc_places.specs.Place.{next_place, place_past, placed_characters_from}
use Rattle.gabc_places.proofs.PlacesOfAText.{placed_append}
use Rattle.gabc_patterns.specs.LongestItems.{IsSnippet, IsViable}
use Rattle.gabc_patterns.specs.Derivative.{is_viable}
use Rattle.gabc_patterns.proofs.FunctionsMeetRelations.{snippet_decides, trim_snippet, viable_decides}
use Rattle.gabc_patterns.proofs.KeptTextIsKeptAgain.{snippet_viable, viable_prefix}
use Rattle.gabc_patterns.proofs.StatesAfterTexts.{Stands, left_out, whole_is, whole_at as snippet_at}
use Rattle.gabc_notes.specs.Ends.{IsMarkOf}
use Rattle.gabc_notes.specs.Events.{end_by_mark, finding_event}
use Rattle.gabc_notes.specs.Regular.{each_kept, only_kept}
use Rattle.gabc_notes.specs.declared.stage.NoteEnd.{NoteEnd}
use Rattle.gabc_notes.specs.declared.stage.NoteEnd.TheVariants.{Close}
use Rattle.gabc_notes.specs.declared.stage.NoteEvent.{NoteEvent}
use Rattle.gabc_notes.specs.declared.stage.NoteEvent.TheVariants.{Kept, Ended}
use Rattle.gabc_nabc.specs.CharClass.{class_of_character}
use Rattle.gabc_nabc.specs.Table.{nabc}
use Rattle.gabc_nabc.specs.Events.{bytes_in, events_at, in_comment, is_missing, kept_of, nabc_events, nabc_events_after}
use Rattle.gabc_nabc.specs.Regular.{IsRegular}
use Rattle.gabc_nabc.specs.machine.Regular.{regular_after, regular_by}
use Rattle.gabc_nabc.specs.witness.DescriptorMachine.{first_at, next_state, whole_at}
use Rattle.gabc_nabc.specs.declared.regular.RegularState.{RegularState}
use Rattle.gabc_nabc.specs.declared.stage.NabcStage.{NabcStage}
use Rattle.gabc_nabc.specs.declared.state.DescriptorState.{DescriptorState}
use Rattle.gabc_nabc.specs.declared.state.DescriptorState.TheVariants.{Start}
use Rattle.gabc_nabc.proofs.grammar.SnippetIsReadAgain.{GoesOn, goes_on, mark_is}
use Rattle.gabc_nabc.proofs.machine.FreshStageEmitsEventsByPoint.{Reached, fresh_reached, fresh_stage, goes_on as reaches, viable_at_next}
use Rattle.gabc_nabc.proofs.machine.MachineReadsTable.{machine, snippets_read}
use Rattle.gabc_nabc.proofs.machine.TextWithACharacterMore.{end_more}

-- a stage as the reading sees it
abbrev pub seen : NabcStage → RegularState
seen st = record { part = st.state; letter = st.letter }

-- The reading stands where a stage does that has read the text, which is regular so far: all of it was kept, and nothing else emitted.
pub record Reads (t : List ℕ) (r : RegularState) : Type 0 where
  pub st : NabcStage
  pub reached : Reached t st
  pub no_comment : in_comment t ≡ false
  pub kept : kept_of t ≡ t
  pub is : r ≡ seen st
  pub events : (at : Place) (xs : List Char) → nabc_events (placed_characters_from at t ++ xs) ≡ each_kept (placed_characters_from at t) ++ nabc_events_after t xs

pub reads_first : Reads [] (record { part = Start; letter = 47 })
reads_first = grind (arith, fresh_stage, fresh_reached)

module _ (t : List ℕ) (r : RegularState) (h : Reads t r) where
  pub stands : Stands nabc machine h.st.state t
  stands = subst (Stands nabc machine h.st.state) h.kept h.reached.stands

  -- a character that goes on
  module _ (c : ℕ) (z : DescriptorState) (next : next_state h.st.state (class_of_character c) ≡ Some z) where
    tested : is_viable nabc (kept_of t ++ c ∷ []) ≡ true
    tested = viable_at_next t h.st c (Some z) h.reached next

    g : GoesOn t c
    g = goes_on t c h.no_comment h.kept ((viable_decides nabc refl (t ++ c ∷ [])).0 (ap (λ (k : List ℕ). is_viable nabc (k ++ c ∷ [])) (sym h.kept) ∙ tested))

    -- with a finding, if it ends a code without a name
    emits : (missing : Bool) → is_missing (first_at h.st.state h.st.letter) c ≡ missing → (place : Place)
        → events_at t (record { c = c; place = place }) ≡ Kept (record { c = c; place = place }) ∷ (if missing then finding_event place W7 ∷ [] else [])
    emits missing m place = rw (h.reached.unended, g.no_end, g.character, tested, h.reached.first, m) refl

    goes_on_to : is_missing (first_at h.st.state h.st.letter) c ≡ false → Reads (t ++ c ∷ []) (record { part = z; letter = c })
    goes_on_to named = record {
      st = _;
      reached = reaches t h.st c z h.reached g.no_end g.character next;
      no_comment = g.comment;
      kept = g.kept_is;
      is = refl;
      events = λ at xs.
          (let x : Char = record { c = c; place = place_past at t } in
          let placed : placed_characters_from at (t ++ c ∷ []) ≡ placed_characters_from at t ++ x ∷ [] = placed_append at t (c ∷ []) in
          ap (λ (l : List Char). nabc_events (l ++ xs)) placed
          ∙ (ap nabc_events (append_assoc (placed_characters_from at t) (x ∷ []) xs)
          ∙ (h.events at (x ∷ xs)
          ∙ (ap (λ (l : List NoteEvent). each_kept (placed_characters_from at t) ++ l ∷ nabc_events_after (t ++ c ∷ []) xs) (emits false named (place_past at t))
          ∙ (sym (append_assoc (each_kept (placed_characters_from at t)) ((Kept x ∷ []) ∷ []) (nabc_events_after (t ++ c ∷ []) xs))
          ∙ ap (λ (l : List (List NoteEvent)). l ++ nabc_events_after (t ++ c ∷ []) xs) (sym (map-append only_kept (placed_characters_from at t) (x ∷ [])) ∙ ap each_kept (sym placed)))))));
    }

-- a character more
pub reads_more : (t : List ℕ) (r after : RegularState) (c : ℕ) → Reads t r → regular_after r c ≡ Some after → Reads (t ++ c ∷ []) after
reads_more t r after c h e = by (next_state h.st.state (class_of_character c)) refl (ap (λ (q : RegularState). regular_after q c) (sym h.is) ∙ e)
  where
    by : (o : Option DescriptorState) → next_state h.st.state (class_of_character c) ≡ o → regular_after (seen h.st) c ≡ Some after → Reads (t ++ c ∷ []) after
    by None n f = (let k : None ≡ Some after = ap (regular_by (seen h.st) c) (sym n) ∙ f in absurd (cc))
    by (Some z) n f = to (is_missing (first_at h.st.state h.st.letter) c) refl (ap (regular_by (seen h.st) c) (sym n) ∙ f)
      where
        to : (m : Bool) → is_missing (first_at h.st.state h.st.letter) c ≡ m → regular_by (seen h.st) c (Some z) ≡ Some after → Reads (t ++ c ∷ []) after
        to true m k = (let l : None ≡ Some after = ap (λ (b : Bool). if b then None else Some (record { part = z; letter = c })) (sym m) ∙ k in absurd (cc))
        to false m k = (let l : Some (record { part = z; letter = c }) ≡ Some after = ap (λ (b : Bool). if b then None else Some (record { part = z; letter = c })) (sym m) ∙ k in
            subst (Reads (t ++ c ∷ [])) (cc l) (goes_on_to t r h c z n m))

-- ---- where it may end

mark_ends : (how : NoteEnd) (mark : ℕ) → IsMarkOf true how mark → end_by_mark mark ≡ how
mark_ends how mark e = grind arith

pub reads_regular : (t : List ℕ) (r : RegularState) → Reads t r → whole_at r.part ≡ true → IsRegular t
reads_regular t r h e = grind (arith, mark_is, end_more, placed_append, mark_ends, trim_snippet, snippet_at, snippets_read, stands, snippet_decides)

-- ---- where it may not, and where it does not go on

pub regular_ends : (t : List ℕ) (r : RegularState) → Reads t r → IsRegular t → whole_at r.part ≡ true
regular_ends t r h i = ap (λ (q : RegularState). whole_at q.part) h.is ∙ (sym (whole_is nabc machine snippets_read h.st.state t (stands t r h)) ∙ (snippet_decides nabc refl t).1 i.snippet)

some_is_none : (r : RegularState) → Some r ≡ None → ⊥
some_is_none r e = cc

-- a text that goes on where the reading does not is not regular
pub stuck_there : (t u : List ℕ) (c : ℕ) (r : RegularState) → Reads t r → regular_after r c ≡ None → IsRegular (t ++ c ∷ u) → ⊥
stuck_there t u c r h e i = by (next_state h.st.state (class_of_character c)) refl (ap (λ (q : RegularState). regular_after q c) (sym h.is) ∙ e)
  where
    start : Place
    start = record { line = 1; column = 1 }

    x : Char
    x = record { c = c; place = place_past start t }

    viable : IsViable nabc (t ++ c ∷ [])
    viable = viable_prefix nabc (t ++ c ∷ []) u (snippet_viable nabc ((t ++ c ∷ []) ++ u) (subst (IsSnippet nabc) (sym (append_assoc t (c ∷ []) u)) i.snippet))

    later : List Char
    later = placed_characters_from (next_place (place_past start t) c) (u ++ 41 ∷ [])

    rest : List (List NoteEvent)
    rest = each_kept (placed_characters_from (next_place (place_past start t) c) u) ++ (Ended Close (bytes_in (t ++ c ∷ u)) ∷ []) ∷ ([] ∷ [])

    text : placed_characters_from start ((t ++ c ∷ u) ++ 41 ∷ []) ≡ placed_characters_from start t ++ x ∷ later
    text = ap (placed_characters_from start) (append_assoc t (c ∷ u) (41 ∷ [])) ∙ placed_append start t (c ∷ (u ++ 41 ∷ []))

    kept : each_kept (placed_characters_from start (t ++ c ∷ u)) ≡ each_kept (placed_characters_from start t) ++ (Kept x ∷ []) ∷ each_kept (placed_characters_from (next_place (place_past start t) c) u)
    kept = ap each_kept (placed_append start t (c ∷ u)) ∙ map-append only_kept (placed_characters_from start t) (x ∷ placed_characters_from (next_place (place_past start t) c) u)

    both_ways : nabc_events_after t (x ∷ later) ≡ (Kept x ∷ []) ∷ rest
    both_ways = append_cancel_left (each_kept (placed_characters_from start t)) _ _
        (sym (h.events start (x ∷ later)) ∙ (ap nabc_events (sym text) ∙ (i.events start Close 41 refl
        ∙ (ap (λ (l : List (List NoteEvent)). l ++ (Ended Close (bytes_in (t ++ c ∷ u)) ∷ []) ∷ ([] ∷ [])) kept
        ∙ append_assoc (each_kept (placed_characters_from start t)) ((Kept x ∷ []) ∷ each_kept (placed_characters_from (next_place (place_past start t) c) u)) ((Ended Close (bytes_in (t ++ c ∷ u)) ∷ []) ∷ ([] ∷ []))))))

    first : events_at t x ≡ Kept x ∷ []
    first = (let same = both_ways in cc same)

    by : (o : Option DescriptorState) → next_state h.st.state (class_of_character c) ≡ o → regular_after (seen h.st) c ≡ None → ⊥
    by None n f = left_out nabc machine snippets_read h.st.state t c (stands t r h) n viable
    by (Some z) n f = to (is_missing (first_at h.st.state h.st.letter) c) refl (ap (regular_by (seen h.st) c) (sym n) ∙ f)
      where
        to : (m : Bool) → is_missing (first_at h.st.state h.st.letter) c ≡ m → regular_by (seen h.st) c (Some z) ≡ None → ⊥
        to true m k = (let two : Kept x ∷ finding_event (place_past start t) W7 ∷ [] ≡ Kept x ∷ [] = sym (emits t r h c z n true m (place_past start t)) ∙ first in cc)
        to false m k = some_is_none (record { part = z; letter = c }) (ap (λ (b : Bool). if b then None else Some (record { part = z; letter = c })) (sym m) ∙ k)
