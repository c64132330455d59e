-- The outputs of a stage over a score, after the headers: its state is the pending syllable, the
-- current one, and totals.
use Rattle.std.specs.Prelude.{ℕ, false, ◌-◌, ◌||◌, not, nat_lt, List, [], ◌∷◌, ◌++◌, Bool, length, take, drop, Option, Some, None}
use Rattle.gabc_places.specs.declared.code.Code.{Code}
use Rattle.gabc_places.specs.declared.code.Fault.{Fault}
use Rattle.gabc_places.specs.declared.limits.Limits.{Limits}
use Rattle.gabc_places.specs.declared.place.Char.{Char}
use Rattle.gabc_places.specs.declared.place.Place.{Place}
use Rattle.gabc_places.specs.Place.{saturating_next_place}
use Rattle.gabc_places.specs.StageLaw.{concat_of, silence}
use Rattle.gabc_headers.specs.declared.head_event.HeadEvent.{HeadEvent}
use Rattle.gabc_headers.specs.declared.head_event.HeadEvent.TheVariants as head_event
use Rattle.gabc_body.specs.declared.events.BodyEvent.{BodyEvent}
use Rattle.gabc_body.specs.Body.{fault_at, has_text}
use Rattle.gabc_score.specs.witness.BodyStage.{BodyStageState, running_events_left, texts_by_stage}
use Rattle.gabc_score.specs.declared.score_machine.ScorePart.{ScorePart}
use Rattle.gabc_score.specs.declared.score_machine.ScorePart.TheVariants as score_part
use Rattle.gabc_body.specs.Canonical.{placed_syllables_by}
use Rattle.gabc_body.specs.Events.{InComment, events_from}
use Rattle.gabc_body.specs.NoteBeforeClef.{found_first}
use Rattle.gabc_body.specs.ScoreEvents.{ScoreOutput, Found, Stop, End, findings_now, outputs_of, characters_in, first_place}
use Rattle.gabc_body.specs.Syllable.{UnplacedSyllable, PlacedSyllable}
use Rattle.gabc_body.specs.witness.BodyBuilder.{with_all, code_in, end_fault, end_findings}
use Rattle.gabc_body.specs.witness.Gatherer.{Gathered, nothing_gathered, with_last}

-- The place of the next character, and the state gathered: of the syllables made, those not emitted
-- yet, the last of them pending. And whether a syllable is before them.
pub record HeldScore : Type 0 where
  pub next : Place
  pub gathered : Gathered
  pub is_preceded : Bool

-- these syllables with their positions, the first of them the first not emitted yet
abbrev pub placed_after : Bool → List UnplacedSyllable → List PlacedSyllable
placed_after is_preceded made = placed_syllables_by (not is_preceded) made

abbrev pub held_outputs : HeldScore → List ScoreOutput
held_outputs s = outputs_of [] (placed_after s.is_preceded s.gathered.made)

abbrev pub stop_outputs : HeldScore → Fault → List ScoreOutput
stop_outputs s fault = held_outputs s ++ Stop fault ∷ []

-- the outputs at a character for which the body emits this, if no limit is passed
abbrev pub point_outputs : HeldScore → Char → List BodyEvent → List ScoreOutput
point_outputs s x now =
    let g = with_all s.gathered now in
    outputs_of (findings_now now ++ found_first s.gathered.first_kind g.first_kind x.place) (take (length g.made - 1) (placed_after s.is_preceded g.made))

-- all syllables but the last are emitted
abbrev pub with_held : Gathered → Gathered
with_held g = record g { made = drop (length g.made - 1) g.made }

abbrev pub score_past : HeldScore → Char → List BodyEvent → HeldScore
score_past s x now =
    let g = with_all s.gathered now in
    record { next = saturating_next_place x.place x.c; gathered = with_held g; is_preceded = s.is_preceded || nat_lt 1 (length g.made) }

abbrev pub end_outputs_by : HeldScore → List BodyEvent → Option Fault → List ScoreOutput
end_outputs_by s now (Some fault) = stop_outputs s fault
end_outputs_by s now None =
    let g = with_all s.gathered now in
    outputs_of (findings_now now ++ end_findings s.next (has_text g.builder.view) ((with_last g).eu || (with_last g).nlba)) (placed_after s.is_preceded (with_last g).made)
    ++ End ∷ []

abbrev pub end_outputs : Limits → HeldScore → List BodyEvent → List ScoreOutput
end_outputs limits s now = end_outputs_by s now (end_fault limits s.next (with_last (with_all s.gathered now)))

abbrev pub left_by : Option Code → HeldScore → Char → List BodyEvent → List HeadEvent → List (List ScoreOutput) → List (List ScoreOutput)
left_by (Some code) s x now xs later = stop_outputs s (fault_at x.place code) ∷ silence xs
left_by None s x now xs later = point_outputs s x now ∷ later

-- the outputs left, if the body's machine has these lists left
abbrev pub body_left : Limits → HeldScore → List (List BodyEvent) → List HeadEvent → List (List ScoreOutput)
body_left limits s lists [] = held_outputs s ∷ []
body_left limits s (now ∷ lists) (head_event.Body x ∷ xs) =
    left_by (code_in limits (with_all s.gathered now)) s x now xs (body_left limits (score_past s x now) lists xs)
body_left limits s [] (head_event.Body x ∷ xs) = silence (head_event.Body x ∷ xs)
body_left limits s lists (head_event.End ∷ xs) = end_outputs limits s (concat_of lists) ∷ silence xs
body_left limits s lists (head_event.Stop fault ∷ xs) = stop_outputs s fault ∷ silence xs
body_left limits s lists (head_event.Found f ∷ xs) = (Found f ∷ []) ∷ body_left limits s lists xs
body_left limits s lists (head_event.Heads lines macros canonical ∷ xs) = [] ∷ body_left limits s lists xs

-- ---- the stage

-- the state at the beginning of a body, after canonical headers of `head` bytes
abbrev pub begun_score : Limits → Place → ℕ → HeldScore
begun_score limits at head = record { next = at; gathered = nothing_gathered limits.syllable head; is_preceded = false }

abbrev pub fresh_score : Limits → ℕ → HeldScore
fresh_score limits head = begun_score limits first_place head

-- the outputs left before the body: findings and the fault of the headers are passed on
abbrev pub score_left : Limits → List HeadEvent → List (List ScoreOutput)
score_left limits [] = [] ∷ []
score_left limits (head_event.Heads lines macros canonical ∷ xs) =
    [] ∷ body_left limits (fresh_score limits canonical) (events_from texts_by_stage lines macros InComment (characters_in xs)) xs
score_left limits (head_event.Found f ∷ xs) = (Found f ∷ []) ∷ score_left limits xs
score_left limits (head_event.Stop fault ∷ xs) = (Stop fault ∷ []) ∷ silence xs
score_left limits (head_event.End ∷ xs) = (End ∷ []) ∷ silence xs
score_left limits (head_event.Body x ∷ xs) = [] ∷ score_left limits xs

-- the outputs left, in each part
abbrev pub outputs_left : Limits → ScorePart → HeldScore → BodyStageState → List HeadEvent → List (List ScoreOutput)
outputs_left limits score_part.Heads s body xs = score_left limits xs
outputs_left limits score_part.Body s body xs = body_left limits s (running_events_left body (characters_in xs)) xs
outputs_left limits score_part.Over s body xs = silence xs
