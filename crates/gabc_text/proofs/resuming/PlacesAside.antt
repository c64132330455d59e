-- What a stage does depends on places in its places alone, and in where its findings stand.
use Rattle.std.proofs.Common.{arith, ◌≡◌, ◌==◌, ◌&&◌, ℕ, List, [], ◌∷◌, ◌++◌, map, Bool, true, false, cond, Option, Some, None, refl, sym, ap, ◌∙◌}
use Rattle.gabc_places.specs.declared.code.Code.{Code}
use Rattle.gabc_places.specs.declared.place.Place.{Place}
use Rattle.gabc_places.specs.Place.{saturating_next_place}
use Rattle.gabc_text.specs.declared.progress.Progress.{Progress}
use Rattle.gabc_text.specs.declared.text_facts.TextFacts.{TextFacts}
use Rattle.gabc_text.specs.declared.token.TokenKind.{TokenKind}
use Rattle.gabc_text.specs.declared.token.TagEffect.{TagEffect}
use Rattle.gabc_text.specs.declared.token.TagEffect.TheVariants.{Other}
use Rattle.gabc_text.specs.declared.token_state.Step.{Step}
use Rattle.gabc_text.specs.declared.token_state.Step.TheVariants.{Stays, Ends}
use Rattle.gabc_text.specs.declared.text_event.TextPart.{TextPart}
use Rattle.gabc_text.specs.declared.text_event.TextEvent.{TextEvent}
use Rattle.gabc_text.specs.declared.text_event.TextEvent.TheVariants as out
use Rattle.gabc_text.specs.declared.text_event.TextEnd.TheVariants as text_ending
use Rattle.gabc_text.specs.declared.stage.TextStage.{TextStage}
use Rattle.gabc_text.specs.Events.{option_list_of}
use Rattle.gabc_text.specs.witness.EventsLeft.{findings_there, parts_by}
use Rattle.gabc_text.specs.View.{piece_kind}
use Rattle.gabc_text.specs.machine.Resuming.{nowhere, placed}
use Rattle.gabc_text.specs.witness.Keeps.{said}
use Rattle.gabc_text.specs.machine.TokenState.{settled_kind, next_step, keep, is_plain}
use Rattle.gabc_text.specs.machine.TextStage.{char_event, token_stage, events_of_token, settle_stage_by, events_of_settling_by, stage_past_char, stage_after_step, events_of_step, read_stage, events_of_reading, end_stage, events_of_end, settled_push_stage, events_of_settled_push, push_stage, events_of_push}

-- ---- what is said

pub said_append : (xs ys : List TextEvent) → said (xs ++ ys) ≡ said xs ++ said ys
said_append [] ys = refl
said_append (out.Kept x ∷ xs) ys = ap (λ (os : List TextEvent). out.Kept (record { c = x.c; place = nowhere }) ∷ os) (said_append xs ys)
said_append (out.Part p ∷ xs) ys = ap (λ (os : List TextEvent). out.Part p ∷ os) (said_append xs ys)
said_append (out.Found f ∷ xs) ys = said_append xs ys
said_append (out.Ended h ∷ xs) ys = ap (λ (os : List TextEvent). out.Ended h ∷ os) (said_append xs ys)

pub said_found : (p : Place) (cs : List Code) → said (findings_there p cs) ≡ []
said_found p [] = refl
said_found p (c ∷ cs) = said_found p cs

-- of a token its parts
abbrev pub said_of_token : TextFacts → Progress → TokenKind → TagEffect → ℕ → List TextEvent
said_of_token facts p k e last = map (λ (x : TextPart). out.Part x) (parts_by facts p k last p.kept (piece_kind k e))

pub token_said : (facts : TextFacts) (p : Progress) (k : TokenKind) (e : TagEffect) (last : ℕ) → said (events_of_token facts p k e last) ≡ said_of_token facts p k e last
token_said facts p k e last = grind arith

abbrev pub said_of_char : Option ℕ → List TextEvent
said_of_char None = []
said_of_char (Some c) = out.Kept (record { c = c; place = nowhere }) ∷ []

char_said : (p : Place) (o : Option ℕ) → said (option_list_of (char_event p o)) ≡ said_of_char o
char_said p o = grind arith

abbrev pub said_of_step : TextStage → Step → ℕ → List TextEvent
said_of_step t (Stays state) last = []
said_of_step t (Ends k e) last = said_of_token t.facts t.progress k e last

step_said : (t : TextStage) (st : Step) (last : ℕ) → said (events_of_step t st last) ≡ said_of_step t st last
step_said t st last = grind arith

pub reading_said : (t : TextStage) (c : ℕ)
    → said (events_of_reading t c) ≡ said_of_char (keep t.facts t.state c) ++ said_of_step (stage_past_char t c) (next_step t.state c) t.progress.kept
reading_said t c = grind (arith, said_append, said_found, char_said, step_said)

-- ---- at other places

pub record IsPlaced (s r : TextStage) : Type 0 where
  pub place : Place
  pub next : Place
  pub same : r ≡ placed place next s

module _ (at next : Place) where
  step_placed : (u : TextStage) (c : ℕ) (st : Step) → IsPlaced (stage_after_step (stage_past_char u c) st) (stage_after_step (stage_past_char (placed at next u) c) st)
  step_placed u c (Stays state) = record { place = at; next = saturating_next_place next c; same = refl }
  step_placed u c (Ends k e) = record { place = saturating_next_place next c; next = saturating_next_place next c; same = refl }

  same_step : (u : TextStage) (c : ℕ) (st : Step) → said_of_step (stage_past_char (placed at next u) c) st u.progress.kept ≡ said_of_step (stage_past_char u c) st u.progress.kept
  same_step u c st = cc

  read_same : (u : TextStage) (c : ℕ) → said (events_of_reading (placed at next u) c) ≡ said (events_of_reading u c)
  read_same u c =
      reading_said (placed at next u) c
      ∙ ap (λ (os : List TextEvent). said_of_char (keep u.facts u.state c) ++ os) (same_step u c (next_step u.state c))
      ∙ sym (reading_said u c)

  end_same : (u : TextStage) → said (events_of_end u.facts (placed at next u).progress text_ending.Notes) ≡ said (events_of_end u.facts u.progress text_ending.Notes)
  end_same u = grind arith

  settled_placed : (u : TextStage) (c : ℕ) → IsPlaced (settled_push_stage u c) (settled_push_stage (placed at next u) c)
  settled_placed u c = by (c == 40 && is_plain u.state)
    where
      by : (b : Bool) → IsPlaced (cond b (end_stage u) (read_stage u c)) (cond b (end_stage (placed at next u)) (read_stage (placed at next u) c))
      by true = record { place = at; next = next; same = refl }
      by false = step_placed u c (next_step u.state c)

  settled_same : (u : TextStage) (c : ℕ) → said (events_of_settled_push (placed at next u) c) ≡ said (events_of_settled_push u c)
  settled_same u c = grind (arith, end_same, read_same)

-- a character does the same
pub push_placed : (at next : Place) (s : TextStage) (c : ℕ) → IsPlaced (push_stage s c) (push_stage (placed at next s) c)
push_placed at next s c = by s.ended (settled_kind s.state c)
  where
    by : (b : Bool) (o : Option TokenKind) → IsPlaced (cond b s (settled_push_stage (settle_stage_by s o) c)) (cond b (placed at next s) (settled_push_stage (settle_stage_by (placed at next s) o) c))
    by true o = record { place = at; next = next; same = refl }
    by false None = settled_placed at next s c
    by false (Some k) = settled_placed next next (token_stage s k Other s.progress.next) c

pub push_same : (at next : Place) (s : TextStage) (c : ℕ) → said (events_of_push (placed at next s) c) ≡ said (events_of_push s c)
push_same at next s c = by s.ended (settled_kind s.state c)
  where
    by : (b : Bool) (o : Option TokenKind)
        → said (cond b [] (events_of_settling_by (placed at next s) o ++ events_of_settled_push (settle_stage_by (placed at next s) o) c))
        ≡ said (cond b [] (events_of_settling_by s o ++ events_of_settled_push (settle_stage_by s o) c))
    by true o = refl
    by false None = settled_same at next s c
    by false (Some k) =
        said_append (events_of_token s.facts (placed at next s).progress k Other s.progress.start) _
        ∙ ap (λ (os : List TextEvent). os ++ said (events_of_settled_push (token_stage (placed at next s) k Other next) c)) (token_said s.facts (placed at next s).progress k Other s.progress.start ∙ sym (token_said s.facts s.progress k Other s.progress.start))
        ∙ ap (λ (os : List TextEvent). said (events_of_token s.facts s.progress k Other s.progress.start) ++ os) (settled_same next next (token_stage s k Other s.progress.next) c)
        ∙ sym (said_append (events_of_token s.facts s.progress k Other s.progress.start) _)
