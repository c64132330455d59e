-- What is emitted at a point: what the gatherer holds after it, what was found, and which limit is passed.
use Rattle.std.proofs.Common.{◌≡◌, ℕ, ◌+◌, ◌-◌, ◌<◌, ◌^◌, min, nat_lt, Bool, true, false, cond, List, [], ◌∷◌, ◌++◌, length, take, refl, sym, ap, ◌∙◌, arith, append_assoc, append-nil}
use Rattle.std.proofs.lemmas.List.{take_at}
use Rattle.gabc_places.specs.declared.limits.Limits.{Limits}
use Rattle.gabc_body.specs.declared.events.BodyEvent.{BodyEvent}
use Rattle.gabc_body.specs.Syllable.{UnplacedSyllable, closes, since_close, syllable_by, is_eu, is_nlba, all_syllables}
use Rattle.gabc_body.specs.Body.{events_onto, code_at, findings_of}
use Rattle.gabc_body.specs.witness.Gatherer.{Gathered, with_event}
use Rattle.gabc_body.specs.witness.BodyBuilder.{with_all, code_in}
use Rattle.gabc_body.proofs.gathering.BuilderHoldsDefinition.{gathered, gathered_step}
use Rattle.gabc_body.proofs.emitted.EventsOfSyllableParts.{onto_append}

-- ---- lists

pub with_all_append : (g : Gathered) (xs ys : List BodyEvent) → with_all g (xs ++ ys) ≡ with_all (with_all g xs) ys
with_all_append g [] ys = refl
with_all_append g (x ∷ xs) ys = with_all_append (with_event g x) xs ys

-- ---- a point

pub gathered_all : (limit head : ℕ) (before : List BodyEvent) → limit < 2 ^ 64 - 1 → (now : List BodyEvent) → with_all (gathered limit head before) now ≡ gathered limit head (events_onto now before)
gathered_all limit head before h [] = refl
gathered_all limit head before h (t ∷ now) = ap (λ g. with_all g now) (gathered_step limit head before h t) ∙ gathered_all limit head (t ∷ before) h now

-- what is found at a point comes after what was found before
pub found_on : (before now : List BodyEvent) → findings_of (events_onto now before) ≡ findings_of before ++ findings_of (events_onto now [])
found_on before [] = sym (append-nil (findings_of before))
found_on before (t ∷ now) = grind (arith, found_on (t ∷ before) now, found_on (t ∷ []) now, append-nil, append_assoc)

-- what is found among the events of a part, one after the other
pub found_then : (xs : List BodyEvent) (t : BodyEvent) → findings_of (events_onto xs []) ++ findings_of (t ∷ []) ≡ findings_of (events_onto (xs ++ t ∷ []) [])
found_then xs t = sym (found_on (events_onto xs []) (t ∷ [])) ∙ ap findings_of (sym (onto_append xs (t ∷ []) []))

pub lt_total : (limit n m : ℕ) → limit < m → nat_lt limit (min n m + 1) ≡ nat_lt limit (n + 1)
lt_total limit n m h = grind arith

pub code_is : (limits : Limits) (head : ℕ) (before : List BodyEvent) → limits.input < 2 ^ 64 - 1 → code_in limits (gathered limits.syllable head before) ≡ code_at limits head before
code_is limits head before h = grind (arith, lt_total)

-- ---- the syllables that were made before a point

-- one more or not
pub pushed_more : {X : Type 0} (b : Bool) (xs : List X) (x : X) → (more : List X) × (cond b (xs ++ x ∷ []) xs ≡ xs ++ more)
pushed_more true xs x = (x ∷ [], refl)
pushed_more false xs x = ([], sym (append-nil xs))

pub made_after : (now before : List BodyEvent) → (more : List UnplacedSyllable) × (all_syllables (events_onto now before) ≡ all_syllables before ++ more)
made_after [] before = ([], sym (append-nil (all_syllables before)))
made_after (t ∷ now) before =
    let first = pushed_more (closes t) (all_syllables before) (syllable_by (t ∷ since_close before) (is_eu before) (is_nlba before)) in
    let rest = made_after now (t ∷ before) in
    (first.0 ++ rest.0, rest.1 ∙ ap (λ (ms : List UnplacedSyllable). ms ++ rest.0) first.1 ∙ append_assoc (all_syllables before) first.0 rest.0)

pub made_before : (now before : List BodyEvent) → take (length (all_syllables before)) (all_syllables (events_onto now before)) ≡ all_syllables before
made_before now before =
    let more = made_after now before in
    ap (take (length (all_syllables before))) more.1 ∙ take_at (all_syllables before) more.0 (length (all_syllables before)) refl
