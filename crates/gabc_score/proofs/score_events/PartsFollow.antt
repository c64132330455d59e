-- Where a machine stands after what it gives.
use Rattle.std.proofs.Common.{◌≡◌, ◌⊎◌, ◌||◌, Bool, true, false, List, [], ◌∷◌, ◌++◌, refl, ap, ◌∙◌, arith}
use Rattle.std.proofs.Math.Bool.{or-true}
use Rattle.std.specs.List.{list_any}
use Rattle.gabc_places.specs.declared.code.Finding.{Finding}
use Rattle.gabc_headers.specs.declared.head_event.HeadEvent.{HeadEvent}
use Rattle.gabc_score.specs.declared.score_machine.ScorePart.{ScorePart}
use Rattle.gabc_score.specs.declared.score_machine.ScorePart.TheVariants as score_part
use Rattle.gabc_body.specs.ScoreEvents.{ScoreOutput, is_last, outputs_of}
use Rattle.gabc_score.specs.ScoreStage.{part_past}
use Rattle.gabc_body.specs.Syllable.{PlacedSyllable}

-- it is one of the others
pub outside : (p : ScorePart) → (p ≡ score_part.Heads) ⊎ (p ≡ score_part.Over) → p ≡ score_part.Body → ⊥
outside p h f = grind arith

-- with a stop or the end after them
pub last_after : (outputs : List ScoreOutput) (o : ScoreOutput) → is_last o ≡ true → list_any is_last (outputs ++ o ∷ []) ≡ true
last_after [] o e = ap (λ (b : Bool). b || false) e
last_after (x ∷ outputs) o e = ap (λ (b : Bool). is_last x || b) (last_after outputs o e) ∙ or-true (is_last x)

-- findings and syllables are neither
none_is_last : (fs : List Finding) (ss : List PlacedSyllable) → list_any is_last (outputs_of fs ss) ≡ false
none_is_last [] [] = refl
none_is_last [] (s ∷ ss) = none_is_last [] ss
none_is_last (f ∷ fs) ss = none_is_last fs ss

-- in the body a stop or the end leads out of it
pub leads_out : (part new : ScorePart) (x : HeadEvent) (outputs : List ScoreOutput) (o : ScoreOutput) → part ≡ score_part.Body → new ≡ score_part.Over → is_last o ≡ true → new ≡ part_past part x (outputs ++ o ∷ [])
leads_out part new x outputs o body over e = rw (body, over, last_after outputs o e) refl

-- findings and syllables leave it there
pub stays_inside : (part new : ScorePart) (x : HeadEvent) (fs : List Finding) (ss : List PlacedSyllable) → part ≡ score_part.Body → new ≡ score_part.Body → new ≡ part_past part x (outputs_of fs ss)
stays_inside part new x fs ss body is = rw (body, is, none_is_last fs ss) refl
