-- What a machine in the body gathers of a character that it reads again.
use Rattle.std.proofs.Common.{◌≡◌, inl, inr, ℕ, ◌-◌, ◌≤◌, ◌&&◌, ◌++◌, nat_lt, Bool, false, List, [], ◌∷◌, length, take, drop, None, is_some, refl, sym, ap, ◌∙◌, arith, length-append}
use Rattle.std.specs.List.{list_any}
use Rattle.std.proofs.lemmas.Bool.Decides.{nat_tests}
use Rattle.gabc_places.specs.BoundedList.{BoundedList}
use Rattle.gabc_places.specs.Place.{saturating_next_place}
use Rattle.gabc_places.specs.declared.code.Finding.{Finding}
use Rattle.gabc_places.specs.declared.place.Char.{Char}
use Rattle.gabc_text.specs.declared.text_event.TextEnd.TheVariants as text_end
use Rattle.gabc_text.specs.declared.text_event.TextEvent.TheVariants as text_out
use Rattle.gabc_text.specs.declared.text_event.TextPart.TheVariants as text_part
use Rattle.gabc_notes.specs.declared.stage.NoteEnd.TheVariants as note_end
use Rattle.gabc_notes.specs.declared.stage.NoteEvent.TheVariants as note
use Rattle.gabc_body.specs.declared.events.BodyEvent.{BodyEvent}
use Rattle.gabc_body.specs.declared.events.BodyEvent.TheVariants as event
use Rattle.gabc_score.specs.declared.reading_again.SyllableRead.{SyllableRead}
use Rattle.gabc_score.specs.declared.reading_again.SyllableRead.TheVariants.{Open, Whole, GivenUp}
use Rattle.gabc_score.specs.declared.score_machine.ScoreMachine.{ScoreMachine}
use Rattle.gabc_score.specs.Before.{with_placed}
use Rattle.gabc_body.specs.Syllable.{UnplacedSyllable}
use Rattle.gabc_body.specs.witness.BodyBuilder.{with_all, code_in}
use Rattle.gabc_body.specs.witness.Gatherer.{Gathered, with_event}
use Rattle.gabc_score.specs.machine.PartPushes.{ClosesLast}
use Rattle.gabc_score.specs.machine.Preceded.{Contexts}
use Rattle.gabc_score.specs.machine.ReadsSilently.{GoesOn, ReadsSilently, left_by, left_with}
use Rattle.gabc_score.specs.machine.ReadAlone.{is_error}
use Rattle.gabc_score.specs.machine.ReadsChar.{Gathers, StandsInBody, past_char}
use Rattle.gabc_score.specs.machine.ScoreMachine.{has_given, IsInBody, KeepsMemory}
use Rattle.gabc_score.specs.machine.ScoreStage.{placed_after, with_held}
use Rattle.gabc_score.specs.machine.SlotPair.{SlotPairState, is_made}
use Rattle.gabc_score.specs.witness.BodyStage.{BodyStageState}
use Rattle.gabc_score.proofs.building.EventsOfSnippets.{stage_emits}
use Rattle.gabc_score.proofs.building.PartsKeepOnly.{keeps_only}
use Rattle.gabc_score.proofs.building.SyllableEndsLast.{closes_last}
use Rattle.gabc_score.proofs.resuming.PartsReadAgain.{reads_again}
use Rattle.gabc_score.proofs.score_events.CharactersAreRead.{HasTurned, before_is, rests_past}
use Rattle.gabc_score.proofs.score_events.WhatPrecedes.{same_or_closed}

pub few_is : (n : ℕ) → n ≤ 1 → nat_lt 1 n ≡ false
few_is n h = grind (arith, nat_tests, h)

few_made : (g : Gathered) (now : List BodyEvent) → ClosesLast now → g.made ≡ [] → length (with_all g now).made ≤ 1
few_made g now last none = elim (same_or_closed g now last) [
  | inl same ↦ (let l = ap length (same ∙ none) in omega (arith, l))
  | inr c ↦ (let l = ap length (c.made ∙ ap (λ (ms : List UnplacedSyllable). ms ++ c.m ∷ []) none) in omega (arith, l))
]

pub few_dropped : (ms : List UnplacedSyllable) → length ms ≤ 1 → drop (length ms - 1) ms ≡ ms
few_dropped [] few = refl
few_dropped (m ∷ []) few = refl
few_dropped (m ∷ n ∷ ms) few = absurd (omega (arith, few))

-- none is given then
pub held_all : (g : Gathered) → length g.made ≤ 1 → with_held g ≡ g
held_all g few = ap (λ (ms : List UnplacedSyllable). record g { made = ms }) (few_dropped g.made few)

-- ---- what is counted, if no syllable becomes whole

made_grows : (now : List BodyEvent) (g : Gathered) → length g.made ≤ length (with_all g now).made
made_grows [] g = omega arith
made_grows (event.Text (text_out.Part text_part.WordStart) ∷ now) g = made_grows now (with_event g (event.Text (text_out.Part text_part.WordStart)))
made_grows (event.Text (text_out.Ended text_end.Notes) ∷ now) g = made_grows now (with_event g (event.Text (text_out.Ended text_end.Notes)))
made_grows (event.Notes line (note.Ended note_end.Close n) ∷ now) g =
    let more = made_grows now (with_event g (event.Notes line (note.Ended note_end.Close n))) in omega (arith, more, length-append {A = UnplacedSyllable})
made_grows (t ∷ now) g = made_grows now (with_event g t)

-- no syllable was made more, and the same is counted
pub counted : (g : Gathered) (now : List BodyEvent) → length (with_all g now).made ≤ length g.made → ((with_all g now).made ≡ g.made) × ((with_all g now).total ≡ g.total) × ((with_all g now).over ≡ g.over)
counted g [] few = (refl, refl, refl)
counted g (event.Text (text_out.Part text_part.WordStart) ∷ now) few = counted (with_event g (event.Text (text_out.Part text_part.WordStart))) now few
counted g (event.Text (text_out.Ended text_end.Notes) ∷ now) few = counted (with_event g (event.Text (text_out.Ended text_end.Notes))) now few
counted g (event.Notes line (note.Ended note_end.Close n) ∷ now) few =
    absurd (let more = made_grows now (with_event g (event.Notes line (note.Ended note_end.Close n))) in omega (arith, few, more, length-append {A = UnplacedSyllable}))
counted g (t ∷ now) few = counted (with_event g t) now few

pub none_made : (g h : Gathered) (now : List BodyEvent) → h ≡ with_all g now → nat_lt (length g.made) (length h.made) ≡ false → h.made ≡ g.made
none_made g h now is e =
    let few : length (with_all g now).made ≤ length g.made = rw (← is) (grind (arith, nat_tests, e)) in
    ap (λ (k : Gathered). k.made) is ∙ (counted g now few).0

-- ---- a machine past a character at which nothing became whole

pub none_turned : {m : ScoreMachine} {x : Char} {b : BodyStageState} {p : SlotPairState} {f : BoundedList Finding} → Gathers m x b p f → nat_lt (length p.held) (length p.gathered.made) ≡ false → is_made p.used ≡ false → HasTurned p p
none_turned a fewer used = grind (arith, few_is, held_all)

-- ---- a character that is read again

module _ {m : ScoreMachine} {c : ℕ} {b : BodyStageState} {p : SlotPairState} {f : BoundedList Finding} (h : StandsInBody m) (a : Gathers m (record { c = c; place = m.next }) b p f) where
  abbrev x : Char
  x = record { c = c; place = m.next }

  -- the machine tests what the definition does
  pub left_is : (strict : Bool) → left_with strict m.limits m.pair.gathered b.events ≡ left_by (strict && list_any is_error f.items) (is_some (code_in m.limits p.gathered)) (nat_lt (length p.held) (length p.gathered.made))
  left_is strict = rw (a.found, h.rests.rests.none, a.gathered, a.held) refl

  passes : (strict : Bool) (left : SyllableRead) (n : ScoreMachine) → left_with strict m.limits m.pair.gathered b.events ≡ left → n.limits ≡ m.limits → KeepsMemory n
      → ((left ≡ GivenUp → ⊥) → GoesOn m (saturating_next_place m.next c) b.events b left n) → ReadsSilently strict m c left n
  passes strict left n is limits memory goes = record {
    rests = h.rests;
    now = b.events;
    body = b;
    again = reads_again a.steps.0;
    law = (stage_emits m.body a.body a.steps).law;
    only = keeps_only a.steps.0 h.rests.reading.parts h.rests.reading.keeps;
    last = closes_last a.steps.0 a.steps.1;
    lines = ap (λ (k : BodyStageState). k.nabc_lines) a.body;
    macros = ap (λ (k : BodyStageState). k.macros) a.body;
    left_is = sym is;
    limits = limits;
    keeps = memory;
    goes = goes;
  }

  -- The syllable is given up.
  pub given_up : (strict : Bool) (n : ScoreMachine) → left_with strict m.limits m.pair.gathered b.events ≡ GivenUp → n.limits ≡ m.limits → KeepsMemory n → ReadsSilently strict m c GivenUp n
  given_up strict n is limits memory = passes strict GivenUp n is limits memory (λ other. absurd (other refl))

  module _ (none : code_in m.limits p.gathered ≡ None) (r : BoundedList Finding) (empty : r.items ≡ []) (room : 9 ≤ r.limit) where
    turned_rests : (q : SlotPairState) → HasTurned p q → IsInBody (past_char m x b q r)
    turned_rests q u = rests_past h.part h.rests a none u r (saturating_next_place m.next c) empty room

    turned_keeps : (q : SlotPairState) → HasTurned p q → KeepsMemory (past_char m x b q r)
    turned_keeps q u = let i = turned_rests q u in record { room = i.rests.room; limit = i.rests.limit }

    -- It goes on.
    pub goes_on : (strict : Bool) → left_with strict m.limits m.pair.gathered b.events ≡ Open → nat_lt (length p.held) (length p.gathered.made) ≡ false → is_made p.used ≡ false → ReadsSilently strict m c Open (past_char m x b p r)
    goes_on strict is fewer used =
        let u = none_turned a fewer used in
        passes strict Open (past_char m x b p r) is refl (turned_keeps p u)
        (λ other. record {
          stands = record { part = h.part; rests = turned_rests p u };
          body_is = refl;
          next_is = refl;
          gathered = λ whole. a.gathered;
          made = λ e. none_made m.pair.gathered p.gathered b.events a.gathered (ap (λ ms. nat_lt (length ms) (length p.gathered.made)) (sym a.held) ∙ fewer);
          contexts = λ e. a.contexts;
          alone = λ none. ap (λ (k : Contexts). k.before) a.contexts;
        })

    -- It is whole.
    pub is_whole : (strict : Bool) (q : SlotPairState) → left_with strict m.limits m.pair.gathered b.events ≡ Whole → HasTurned p q → ReadsSilently strict m c Whole (past_char m x b q r)
    is_whole strict q is u = passes strict Whole (past_char m x b q r) is refl (turned_keeps q u)
        (λ other. record {
          stands = record { part = h.part; rests = turned_rests q u };
          body_is = refl;
          next_is = refl;
          gathered = λ alone. u.gathered ∙ ap with_held a.gathered ∙ held_all (with_all m.pair.gathered b.events) (few (alone refl));
          made = λ e. absurd (cc e);
          contexts = λ e. absurd (cc e);
          alone = λ alone. before_is h.part h.rests a none u ∙ ap (λ n. with_placed m.pair.contexts.before (take n (placed_after (has_given m) p.gathered.made))) (left_none alone);
        })
      where
        few : m.pair.gathered.made ≡ [] → length (with_all m.pair.gathered b.events).made ≤ 1
        few alone = few_made m.pair.gathered b.events (closes_last a.steps.0 a.steps.1) alone

        left_none : m.pair.gathered.made ≡ [] → length p.gathered.made - 1 ≡ 0
        left_none alone = let is = ap (λ (k : Gathered). length k.made) a.gathered in let few = few alone in omega (arith, few, is)
