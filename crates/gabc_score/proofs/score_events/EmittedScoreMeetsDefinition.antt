-- A stage with at most one pending syllable emits what the definition says.
use Rattle.std.proofs.Common.{◌≡◌, ℕ, ◌+◌, ◌-◌, ◌<◌, ◌≤◌, ◌^◌, nat_lt, List, [], ◌∷◌, ◌++◌, length, Option, Some, None, option_map, refl, ap, subst, ◌∙◌, arith, length-append, length-drop}
use Rattle.gabc_places.specs.StageLaw.{concat_of, silence}
use Rattle.gabc_places.specs.Place.{next_place, saturating_next_place}
use Rattle.gabc_text.specs.TextStage.{count_plus}
use Rattle.gabc_score.specs.ScoreStage.{IsPlaceBelow, AreCountsBelow}
use Rattle.gabc_places.specs.declared.code.Code.{Code}
use Rattle.gabc_places.specs.declared.code.Fault.{Fault}
use Rattle.gabc_places.specs.declared.limits.Limits.{Limits}
use Rattle.gabc_places.specs.declared.place.Char.{Char}
use Rattle.gabc_places.specs.declared.place.Place.{Place}
use Rattle.gabc_headers.specs.declared.head_event.HeadEvent.{HeadEvent}
use Rattle.gabc_headers.specs.declared.head_event.HeadEvent.TheVariants as head_event
use Rattle.gabc_body.specs.declared.events.BodyEvent.{BodyEvent}
use Rattle.gabc_score.specs.witness.BodyStage.{texts_by_stage}
use Rattle.gabc_body.specs.Events.{InComment, events_from}
use Rattle.gabc_body.specs.Body.{events_onto, code_at, fault_at, has_last, all_units, cut_of, fault_of_end}
use Rattle.gabc_body.specs.NoteBeforeClef.{with_first, with_first_each}
use Rattle.gabc_body.specs.ScoreEvents.{ScoreOutput, Found, Stop, count_made, outputs_of, outputs_at, held_output, outputs_at_stop, outputs_at_end, outputs_by, body_outputs, characters_in, first_place, score_outputs}
use Rattle.gabc_body.specs.Syllable.{all_syllables}
use Rattle.gabc_body.specs.witness.BodyBuilder.{with_all, code_in, end_fault_by, end_fault}
use Rattle.gabc_body.specs.witness.Gatherer.{Gathered, with_last}
use Rattle.gabc_score.specs.machine.ScoreStage.{HeldScore, held_outputs, stop_outputs, point_outputs, score_past, end_outputs_by, end_outputs, left_by, body_left, begun_score, score_left}
use Rattle.gabc_body.proofs.gathering.BuilderHoldsDefinition.{gathered}
use Rattle.gabc_body.proofs.gathering.EventsOfOnePoint.{gathered_all, code_is}
use Rattle.gabc_body.proofs.gathering.EventsOfOnePoint.{made_after}
use Rattle.gabc_body.proofs.gathering.EndOfBody.{made_by_last, open_by_last, fault_is}
use Rattle.gabc_body.proofs.gathering.FirstNotes.{SaysSame, same_gathered, same_code, says_with_first, findings_with_first}
use Rattle.gabc_score.proofs.score_events.GivenSyllablesCanBeDropped.{without, MayGo, all_without, all_go, last_without, last_goes, code_without, but_last_goes, placed_rest, placed_now, held_then, given_then_is}

-- no fewer syllables are made later
made_grows : (before now : List BodyEvent) → count_made before ≤ count_made (events_onto now before)
made_grows before now =
    let m = made_after now before in
    let l : count_made (events_onto now before) ≡ count_made before + length m.0 = ap length m.1 ∙ length-append (all_syllables before) m.0 in
    omega (arith, l)

module _ (limits : Limits) (head : ℕ) (small : limits.syllable < 2 ^ 64 - 1) (low : limits.input < 2 ^ 64 - 1) where
  -- what the stage holds when this was emitted, and the next character stands there
  abbrev pub holding : Place → List BodyEvent → HeldScore
  holding at before = record {
    next = at;
    gathered = without (count_made before - 1) (gathered limits.syllable head before);
    is_preceded = nat_lt 1 (count_made before);
  }

  -- it holds the same if the same was gathered
  holding_as : (at : Place) (one other : List BodyEvent) → SaysSame one other → holding at one ≡ holding at other
  holding_as at one other e = grind (arith, same_gathered)

  module _ (before now : List BodyEvent) where
    abbrev all : List BodyEvent
    all = events_onto now before

    abbrev k : ℕ
    k = count_made before - 1

    goes : MayGo k (gathered limits.syllable head all)
    goes = subst (MayGo k) (gathered_all limits.syllable head before small now) (all_go k (gathered limits.syllable head before) now (but_last_goes (gathered limits.syllable head before)))

    now_is : with_all (without k (gathered limits.syllable head before)) now ≡ without k (gathered limits.syllable head all)
    now_is = all_without k (gathered limits.syllable head before) now (but_last_goes (gathered limits.syllable head before)) ∙ ap (without k) (gathered_all limits.syllable head before small now)

    code_here : (at : Place) (x : Char) → code_in limits (with_all (holding at before).gathered now) ≡ code_at limits head (events_onto (with_first before x now) before)
    code_here at x = grind (arith, now_is, code_without, goes, code_is, same_code, says_with_first)

    -- the syllables that are made and what came first are the same with what is found beside what
    -- the body emits
    point_is : (at : Place) (x : Char) → point_outputs (holding at before) x now ≡ outputs_at before (with_first before x now)
    point_is at x =
        rw (now_is, placed_now (count_made before) (count_made all) (all_syllables all) refl (made_grows before now), findings_with_first before now x, ap (λ (g : Gathered). g.made) (says_with_first before now x)) refl

    past_is : (at : Place) (x : Char) → score_past (holding at before) x now ≡ holding (saturating_next_place x.place x.c) (events_onto (with_first before x now) before)
    past_is at x = grind (arith, now_is, held_then, made_grows, given_then_is, length-drop, holding_as, says_with_first)

    last_is : with_last (with_all (without k (gathered limits.syllable head before)) now) ≡ without k (with_last (gathered limits.syllable head all))
    last_is = ap (λ (g : Gathered). with_last g) now_is ∙ last_without k (gathered limits.syllable head all) goes

    end_fault_is : (at : Place) → end_fault limits at (with_last (with_all (holding at before).gathered now)) ≡ fault_of_end limits head at all (cut_of all)
    end_fault_is at =
        ap (end_fault limits at) last_is
        ∙ by (with_last (gathered limits.syllable head all)).cut
        ∙ fault_is limits head small low all at
      where
        by : (o : Option Place) → end_fault_by limits at (without k (with_last (gathered limits.syllable head all))) o ≡ end_fault_by limits at (with_last (gathered limits.syllable head all)) o
        by (Some place) = refl
        by None = ap (option_map (fault_at at)) (code_without limits k (with_last (gathered limits.syllable head all)) (last_goes k (gathered limits.syllable head all) goes))

    held_is : (at : Place) → held_outputs (holding at before) ≡ held_output before
    held_is at = ap (outputs_of []) (placed_rest (count_made before) (all_syllables before))

    stop_is : (at : Place) (fault : Fault) → stop_outputs (holding at before) fault ≡ outputs_at_stop before fault
    stop_is at fault = ap (λ outputs. outputs ++ Stop fault ∷ []) (held_is at)

    end_by : (at : Place) (fault : Option Fault) → end_outputs_by (holding at before) now fault ≡ outputs_at_end at before now fault
    end_by at (Some fault) = stop_is at fault
    end_by at None =
        rw (now_is, last_without k (gathered limits.syllable head all) goes, open_by_last limits head small low all (has_last all), made_by_last limits head small low all (has_last all), placed_rest (count_made before) (all_units all)) refl

    end_is : (at : Place) → end_outputs limits (holding at before) now ≡ outputs_at_end at before now (fault_of_end limits head at all (cut_of all))
    end_is at = ap (end_outputs_by (holding at before) now) (end_fault_is at) ∙ end_by at (fault_of_end limits head at all (cut_of all))

  by_code : (at : Place) (before now : List BodyEvent) (x : Char) (xs : List HeadEvent) (left later : List (List ScoreOutput)) → left ≡ later → (code : Option Code)
      → left_by code (holding at before) x now xs left ≡ outputs_by code x before (with_first before x now) xs later
  by_code at before now x xs left later e (Some code) = ap (λ outputs. outputs ∷ silence xs) (stop_is before now at (fault_at x.place code))
  by_code at before now x xs left later e None = ap (λ outputs. outputs ∷ left) (point_is before now at x) ∙ ap (λ lists. outputs_at before (with_first before x now) ∷ lists) e

  -- if no count reaches its last value
  next_is : (x : Char) → IsPlaceBelow x → saturating_next_place x.place x.c ≡ next_place x.place x.c
  next_is x h =
      let line : count_plus x.place.line 1 ≡ x.place.line + 1 = let l = h.0 in omega (arith, l) in
      let column : count_plus x.place.column 1 ≡ x.place.column + 1 = let l = h.1 in omega (arith, l) in
      rw (line, column) refl

  -- what it will still emit
  pub left_is : (at : Place) (before : List BodyEvent) (lists : List (List BodyEvent)) (xs : List HeadEvent) → AreCountsBelow xs
      → body_left limits (holding at before) lists xs ≡ body_outputs limits head at before (with_first_each before (characters_in xs) lists) xs
  left_is at before lists [] p = ap (λ outputs. outputs ∷ []) (held_is before [] at)
  left_is at before (now ∷ lists) (head_event.Body x ∷ xs) p =
      rw (past_is before now at x, next_is x p.0, code_here before now at x)
      (by_code at before now x xs _ _ (left_is (next_place x.place x.c) (events_onto (with_first before x now) before) lists xs p.1) (code_at limits head (events_onto (with_first before x now) before)))
  left_is at before [] (head_event.Body x ∷ xs) p = refl
  left_is at before lists (head_event.End ∷ xs) p = ap (λ outputs. outputs ∷ silence xs) (end_is before (concat_of lists) at)
  left_is at before lists (head_event.Stop fault ∷ xs) p = ap (λ outputs. outputs ∷ silence xs) (stop_is before [] at fault)
  left_is at before lists (head_event.Found f ∷ xs) p = ap (λ outputs. (Found f ∷ []) ∷ outputs) (left_is at before lists xs p)
  left_is at before lists (head_event.Heads lines macros canonical ∷ xs) p = ap (λ outputs. [] ∷ outputs) (left_is at before lists xs p.1)

-- ---- from the first event on

-- nothing is held at first
pub holds_nothing : (limits : Limits) (head : ℕ) (small : limits.syllable < 2 ^ 64 - 1) (low : limits.input < 2 ^ 64 - 1) (at : Place) → head < 2 ^ 64 → begun_score limits at head ≡ holding limits head small low at []
holds_nothing limits head small low at h = grind arith

pub score_is : (limits : Limits) → limits.syllable < 2 ^ 64 - 1 → limits.input < 2 ^ 64 - 1 → (xs : List HeadEvent) → AreCountsBelow xs → score_left limits xs ≡ score_outputs texts_by_stage limits xs
score_is limits small low [] p = refl
score_is limits small low (head_event.Heads lines macros canonical ∷ xs) p =
    let lists = events_from texts_by_stage lines macros InComment (characters_in xs) in
    ap (λ s. [] ∷ body_left limits s lists xs) (holds_nothing limits canonical small low first_place (let h = p.0 in omega (arith, h)))
    ∙ ap (λ outputs. [] ∷ outputs) (left_is limits canonical small low first_place [] lists xs p.1)
score_is limits small low (head_event.Found f ∷ xs) p = ap (λ outputs. (Found f ∷ []) ∷ outputs) (score_is limits small low xs p)
score_is limits small low (head_event.Body x ∷ xs) p = ap (λ outputs. [] ∷ outputs) (score_is limits small low xs p.1)
score_is limits small low (_ ∷ xs) p = refl
