-- A score passes the characters of its body one by one, if no limit is passed.
use Rattle.std.proofs.Common.{◌≡◌, List, [], ◌∷◌, ◌++◌, map, None, refl, ap, arith}
use Rattle.gabc_places.specs.declared.limits.Limits.{Limits}
use Rattle.gabc_places.specs.declared.place.Char.{Char}
use Rattle.gabc_headers.specs.declared.head_event.HeadEvent.{HeadEvent}
use Rattle.gabc_headers.specs.declared.head_event.HeadEvent.TheVariants as head_event
use Rattle.gabc_body.specs.declared.events.BodyEvent.{BodyEvent}
use Rattle.gabc_body.specs.ScoreEvents.{ScoreOutput, characters_in}
use Rattle.gabc_body.specs.witness.BodyBuilder.{with_all, code_in}
use Rattle.gabc_score.specs.machine.ScoreStage.{HeldScore, point_outputs, score_past, body_left}

-- these characters as inputs of the body
abbrev pub inputs_of : List Char → List HeadEvent
inputs_of us = map (λ (x : Char). head_event.Body x) us

pub inputs_are_in : (us : List Char) (xs : List HeadEvent) → characters_in (inputs_of us ++ xs) ≡ us ++ characters_in xs
inputs_are_in [] xs = refl
inputs_are_in (u ∷ us) xs = ap (λ (cs : List Char). u ∷ cs) (inputs_are_in us xs)

-- what is held after these characters, of which the body emits these lists
abbrev pub score_through : HeldScore → List Char → List (List BodyEvent) → HeldScore
score_through s [] lists = s
score_through s (x ∷ us) [] = s
score_through s (x ∷ us) (now ∷ lists) = score_through (score_past s x now) us lists

-- what is given at each of them
abbrev pub points_through : HeldScore → List Char → List (List BodyEvent) → List (List ScoreOutput)
points_through s [] lists = []
points_through s (x ∷ us) [] = []
points_through s (x ∷ us) (now ∷ lists) = point_outputs s x now ∷ points_through (score_past s x now) us lists

-- each character has its list, and no limit is passed at any
abbrev pub NoneStops : Limits → HeldScore → List Char → List (List BodyEvent) → Type 0
NoneStops limits s [] [] = Unit {0}
NoneStops limits s (x ∷ us) (now ∷ lists) = (code_in limits (with_all s.gathered now) ≡ None) × NoneStops limits (score_past s x now) us lists
NoneStops limits s _ _ = ⊥

pub points_pass : (limits : Limits) (s : HeldScore) (us : List Char) (lists later : List (List BodyEvent)) (xs : List HeadEvent) → NoneStops limits s us lists
    → body_left limits s (lists ++ later) (inputs_of us ++ xs) ≡ points_through s us lists ++ body_left limits (score_through s us lists) later xs
points_pass limits s [] [] later xs h = refl
points_pass limits s [] (now ∷ lists) later xs h = absurd h
points_pass limits s (x ∷ us) [] later xs h = absurd h
points_pass limits s (x ∷ us) (now ∷ lists) later xs h = grind (arith, points_pass limits (score_past s x now) us lists later xs h.1)
