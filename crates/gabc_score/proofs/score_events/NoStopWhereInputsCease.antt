-- If what comes in just ceases, a stage of scores gives no finding, no stop and no end; and it
-- gives the end only at the end.
use Rattle.std.proofs.Common.{◌≡◌, ◌≤◌, not, List, [], ◌∷◌, ◌++◌, length, Option, None, false, refl, ap, ◌∙◌, append_assoc, arith}
use Rattle.gabc_places.proofs.PushesAreOne.{joined_silence}
use Rattle.gabc_places.specs.StageLaw.{concat_of, silence}
use Rattle.gabc_places.specs.declared.code.Code.{Code}
use Rattle.gabc_places.specs.declared.code.Fault.{Fault}
use Rattle.gabc_places.specs.declared.limits.Limits.{Limits}
use Rattle.gabc_places.specs.declared.place.Char.{Char}
use Rattle.gabc_headers.specs.declared.head_event.HeadEvent.{HeadEvent}
use Rattle.gabc_headers.specs.declared.head_event.HeadEvent.TheVariants as head_event
use Rattle.gabc_score.specs.witness.BodyStage.{BodyStageState}
use Rattle.gabc_body.specs.declared.events.BodyEvent.{BodyEvent}
use Rattle.gabc_score.specs.declared.score_machine.ScorePart.{ScorePart}
use Rattle.gabc_score.specs.declared.score_machine.ScorePart.TheVariants as score_part
use Rattle.gabc_body.specs.NoteBeforeClef.{found_first}
use Rattle.gabc_body.specs.ScoreEvents.{HasNoEnd, ScoreOutput, Stop, findings_now, has_end, outputs_of, syllables_in}
use Rattle.gabc_score.specs.witness.ScoreStage.{ScoreStageState, left_of}
use Rattle.gabc_body.specs.Syllable.{PlacedSyllable}
use Rattle.gabc_body.specs.witness.BodyBuilder.{with_all}
use Rattle.gabc_score.specs.machine.ScoreStage.{HeldScore, body_left, left_by, outputs_left, placed_after, point_outputs, score_left, score_past, stop_outputs}
use Rattle.gabc_score.proofs.score_events.FewAndShortAreLent.{placed_count}
use Rattle.gabc_body.proofs.score_events.WhatOutputsSay.{Said, said_by, said_of, given_syllables}

-- ---- what ceases

pub record NoStop (s : Said) : Type 0 where
  pub findings : s.findings ≡ []
  pub stop : s.fault ≡ None
  pub end : s.ended ≡ false

held : (ss : List PlacedSyllable) → NoStop (said_by (outputs_of [] ss ++ []))
held ss =
    let said = said_of [] ss [] in
    record { findings = ap (λ (s : Said). s.findings) said; stop = ap (λ (s : Said). s.fault) said; end = ap (λ (s : Said). s.ended) said }

by_part : (limits : Limits) (part : ScorePart) (s : HeldScore) (body : BodyStageState) → NoStop (said_by (concat_of (outputs_left limits part s body [])))
by_part limits score_part.Body s body = held _
by_part limits _ s body = record { findings = refl; stop = refl; end = refl }

pub no_stop : (s : ScoreStageState) → NoStop (said_by (concat_of (left_of s [])))
no_stop s = by_part s.limits s.part s.held s.body

-- one syllable is given at most, if one is held at most
pub few_are_held : (limits : Limits) (s : HeldScore) (body : BodyStageState) → length s.gathered.made ≤ 1
    → length (syllables_in (concat_of (outputs_left limits score_part.Body s body []))) ≤ 1
few_are_held limits s body few = rw (given_syllables [] (placed_after s.is_preceded s.gathered.made) [] refl, placed_count (not s.is_preceded) s.gathered.made) few

-- ---- the end

silent : (xs : List HeadEvent) → has_end (concat_of (silence {I = HeadEvent} {O = ScoreOutput} xs)) ≡ false
silent xs = ap has_end (joined_silence {O = ScoreOutput} xs)

stopped : (s : HeldScore) (fault : Fault) (xs : List HeadEvent) → has_end (concat_of (stop_outputs s fault ∷ silence xs)) ≡ false
stopped s fault xs =
    let ss = placed_after s.is_preceded s.gathered.made in
    let later = concat_of (silence {O = ScoreOutput} xs) in
    ap has_end (append_assoc (outputs_of [] ss) (Stop fault ∷ []) later)
    ∙ (ap (λ (t : Said). t.ended) (said_of [] ss (Stop fault ∷ later)) ∙ silent xs)

pointed : (s : HeldScore) (x : Char) (now : List BodyEvent) (later : List (List ScoreOutput)) → has_end (concat_of later) ≡ false
    → has_end (concat_of (point_outputs s x now ∷ later)) ≡ false
pointed s x now later none = ap (λ (t : Said). t.ended) (said_of (findings_now now ++ found_first s.gathered.first_kind (with_all s.gathered now).first_kind x.place) _ (concat_of later)) ∙ none

read : (code : Option Code) (s : HeldScore) (x : Char) (now : List BodyEvent) (xs : List HeadEvent) (later : List (List ScoreOutput)) → has_end (concat_of later) ≡ false
    → has_end (concat_of (left_by code s x now xs later)) ≡ false
read code s x now xs later none = grind (arith, stopped, pointed)

in_body : (limits : Limits) (s : HeldScore) (lists : List (List BodyEvent)) (xs : List HeadEvent) → HasNoEnd xs → has_end (concat_of (body_left limits s lists xs)) ≡ false
in_body limits s lists [] h = (held (placed_after s.is_preceded s.gathered.made)).end
in_body limits s (now ∷ lists) (head_event.Body x ∷ xs) h = grind (arith, in_body limits (score_past s x now) lists xs h, read)
in_body limits s [] (head_event.Body x ∷ xs) h = silent xs
in_body limits s lists (head_event.End ∷ xs) h = absurd h
in_body limits s lists (head_event.Stop fault ∷ xs) h = stopped s fault xs
in_body limits s lists (_ ∷ xs) h = in_body limits s lists xs h

in_score : (limits : Limits) (xs : List HeadEvent) → HasNoEnd xs → has_end (concat_of (score_left limits xs)) ≡ false
in_score limits [] h = refl
in_score limits (head_event.Heads lines macros canonical ∷ xs) h = grind (arith, in_body)
in_score limits (head_event.Stop fault ∷ xs) h = silent xs
in_score limits (head_event.End ∷ xs) h = absurd h
in_score limits (_ ∷ xs) h = in_score limits xs h

in_part : (limits : Limits) (part : ScorePart) (s : HeldScore) (body : BodyStageState) (xs : List HeadEvent) → HasNoEnd xs → has_end (concat_of (outputs_left limits part s body xs)) ≡ false
in_part limits part s body xs h = grind (arith, in_score, in_body, silent)

pub no_end : (s : ScoreStageState) (xs : List HeadEvent) → HasNoEnd xs → has_end (concat_of (left_of s xs)) ≡ false
no_end s xs h = in_part s.limits s.part s.held s.body xs h
