-- Texts of some characters that are read one after another.
use Rattle.std.proofs.Common.{◌≡◌, ℕ, ◌+◌, List, [], ◌++◌, length, map, refl, sym, ap, ◌∙◌, append_assoc, length-append, arith}
use Rattle.std.proofs.lemmas.List.{map-append}
use Rattle.gabc_places.specs.Place.{place_past}
use Rattle.gabc_places.proofs.PushesAreOne.{joined-append}
use Rattle.gabc_places.specs.StageLaw.{concat_of}
use Rattle.gabc_places.specs.declared.limits.Limits.{Limits}
use Rattle.gabc_places.specs.declared.place.Place.{Place}
use Rattle.gabc_places.proofs.PlacesOfAText.{placed_append}
use Rattle.gabc_headers.specs.declared.head_event.HeadEvent.{HeadEvent}
use Rattle.gabc_score.specs.GivesSyllables.{text_inputs}
use Rattle.gabc_body.specs.ScoreEvents.{ScoreOutput, Syllable}
use Rattle.gabc_body.specs.Syllable.{PlacedSyllable}
use Rattle.gabc_score.specs.machine.Between.{StepsOver, left_between}
use Rattle.gabc_score.specs.machine.ScoreStage.{HeldScore}

pub inputs_append : (at : Place) (t u : List ℕ) → text_inputs at (t ++ u) ≡ text_inputs at t ++ text_inputs (place_past at t) u
inputs_append at t u = grind (arith, placed_append, map-append)

module _ (limits : Limits) (lines macros : ℕ) where
  pub through_none : (at : Place) (s : HeldScore) → StepsOver limits lines macros at s [] [] at s
  through_none at s = record { points = []; one_each = refl; law = λ xs. refl; given_are = refl }

  pub through_both : (at : Place) (s a b : HeldScore) (t u : List ℕ) (g h : List PlacedSyllable) (next last : Place) → next ≡ place_past at t
      → StepsOver limits lines macros at s t g next a → StepsOver limits lines macros next a u h last b → StepsOver limits lines macros at s (t ++ u) (g ++ h) last b
  through_both at s a b t u g h next last place first second = record {
    points = first.points ++ second.points;
    one_each = length-append first.points second.points ∙ ap (λ n. n + length second.points) first.one_each ∙ ap (λ n. length t + n) second.one_each ∙ sym (length-append t u);
    law = λ xs.
        ap (λ (is : List HeadEvent). left_between limits lines macros at s (is ++ xs)) (inputs_append at t u)
        ∙ ap (λ (p : Place). left_between limits lines macros at s ((text_inputs at t ++ text_inputs p u) ++ xs)) (sym place)
        ∙ ap (λ (is : List HeadEvent). left_between limits lines macros at s is) (append_assoc (text_inputs at t) (text_inputs next u) xs)
        ∙ first.law (text_inputs next u ++ xs)
        ∙ ap (λ (l : List (List ScoreOutput)). first.points ++ l) (second.law xs)
        ∙ sym (append_assoc first.points second.points (left_between limits lines macros last b xs));
    given_are = joined-append first.points second.points ∙ ap (λ (l : List ScoreOutput). l ++ concat_of second.points) first.given_are
        ∙ ap (λ (l : List ScoreOutput). map (λ (s : PlacedSyllable). Syllable s) g ++ l) second.given_are ∙ sym (map-append (λ (s : PlacedSyllable). Syllable s) g h);
  }
