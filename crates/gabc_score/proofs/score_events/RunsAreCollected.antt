-- What a taker takes of a run is said by the body.
use Rattle.std.proofs.Common.{◌≡◌, ℕ, Option, List, [], ◌∷◌, ◌++◌, map, refl, sym, ap, ◌∙◌, append_assoc, arith}
use Rattle.std.proofs.lemmas.List.{length-append, map-append}
use Rattle.std.proofs.lemmas.Str.{chars-append}
use Rattle.std.specs.Str.{IsUtf8, chars}
use Rattle.gabc_places.specs.declared.code.Fault.{Fault}
use Rattle.gabc_places.specs.declared.code.Finding.{Finding}
use Rattle.gabc_places.specs.declared.place.Char.{Char}
use Rattle.gabc_places.specs.declared.place.Place.{Place}
use Rattle.gabc_places.specs.Place.{place_past, placed_characters_from}
use Rattle.gabc_places.specs.StageLaw.{concat_of}
use Rattle.gabc_places.proofs.PlacesOfAText.{placed_append}
use Rattle.gabc_places.proofs.PushesAreOne.{joined-append}
use Rattle.gabc_headers.specs.declared.head_event.HeadEvent.{HeadEvent}
use Rattle.gabc_headers.specs.declared.head_event.HeadEvent.TheVariants as head_event
use Rattle.gabc_body.specs.declared.body_result.BodyResult.{BodyResult}
use Rattle.gabc_body.specs.declared.ending.InputEnding.{InputEnding}
use Rattle.gabc_body.specs.ScoreEvents.{ScoreOutput, Syllable, findings_in, syllables_in, fault_in}
use Rattle.gabc_body.specs.Syllable.{PlacedSyllable}
use Rattle.gabc_score.specs.GivesSyllables.{Runs}
use Rattle.gabc_score.specs.witness.ScoreStage.{ScoreStageState, left_of}
use Rattle.gabc_score.specs.machine.Collected.{IsSaid, PassesRun, WillSay, result_with, to_come}
use Rattle.gabc_score.proofs.runs.RunTakesOneMoreSyllable.{few_characters}
use Rattle.gabc_score.proofs.score_events.OutputsAreCollected.{with_more}
use Rattle.gabc_text.proofs.tokens.CountsOfTexts.{place_small}

abbrev given_outputs : List PlacedSyllable → List ScoreOutput
given_outputs ss = map (λ (s : PlacedSyllable). Syllable s) ss

syllables_given : (ss : List PlacedSyllable) (more : List ScoreOutput) → syllables_in (given_outputs ss ++ more) ≡ ss ++ syllables_in more
syllables_given [] more = refl
syllables_given (s ∷ ss) more = ap (λ l. s ∷ l) (syllables_given ss more)

findings_given : (ss : List PlacedSyllable) (more : List ScoreOutput) → findings_in (given_outputs ss ++ more) ≡ findings_in more
findings_given [] more = refl
findings_given (s ∷ ss) more = findings_given ss more

fault_given : (ss : List PlacedSyllable) (more : List ScoreOutput) → fault_in (given_outputs ss ++ more) ≡ fault_in more
fault_given [] more = refl
fault_given (s ∷ ss) more = fault_given ss more

-- syllables are said first
with_given : (r : BodyResult) (ss : List PlacedSyllable) (more : List ScoreOutput) → result_with (record r { syllables = r.syllables ++ ss }) more ≡ result_with r (given_outputs ss ++ more)
with_given r ss more = simp (syllables_given, findings_given, fault_given, append_assoc)

to_come_both : (ending : InputEnding) (xs ys : List Char) → to_come ending (xs ++ ys) ≡ map (λ (x : Char). head_event.Body x) xs ++ to_come ending ys
to_come_both ending xs ys = simp (map-append, append_assoc)

-- what a run took from the front of a text
pub run_passes : {Taker : Type 0} (given_by : Taker → List PlacedSyllable → Taker) (before : ScoreStageState) (at : Place) (text : List ℕ) (after : ScoreStageState) (next : Place) (front rest : List ℕ) (old new : Taker)
    → IsUtf8 front → text ≡ front ++ rest → next ≡ place_past at (chars front) → Runs given_by before at (chars front) after old new → PassesRun given_by before at text after next rest old new
run_passes given_by before at text after next front rest old new utf8 is next_is r = record {
  syllables = r.syllables;
  taken = r.taken;
  law = λ ending.
      let ahead = to_come ending (placed_characters_from (place_past at (chars front)) (chars rest)) in
      ap (λ cs. concat_of (left_of before (to_come ending (placed_characters_from at cs)))) (ap chars is ∙ chars-append front rest utf8)
      ∙ ap (λ xs. concat_of (left_of before (to_come ending xs))) (placed_append at (chars front) (chars rest))
      ∙ ap (λ xs. concat_of (left_of before xs)) (to_come_both ending (placed_characters_from at (chars front)) (placed_characters_from (place_past at (chars front)) (chars rest)))
      ∙ ap concat_of (r.gives.law ahead)
      ∙ joined-append r.gives.points (left_of after ahead)
      ∙ ap (λ os. os ++ concat_of (left_of after ahead)) r.gives.given_are
      ∙ ap (λ p. given_outputs r.syllables ++ concat_of (left_of after (to_come ending (placed_characters_from p (chars rest))))) (sym next_is);
  line = grind (arith, length-append, few_characters front utf8, place_small at (chars front));
  column = grind (arith, length-append, few_characters front utf8, place_small at (chars front));
  shorter = grind (arith, length-append);
}

-- it is said then
pub says_run : {Taker : Type 0} (given_by : Taker → List PlacedSyllable → Taker) (both : (s : Taker) (a b : List PlacedSyllable) → given_by (given_by s a) b ≡ given_by s (a ++ b)) (first old new : Taker)
    (findings : List Finding) (fault : Option Fault) (before after : ScoreStageState) (at next : Place) (text rest : List ℕ) (ending : InputEnding) (all : BodyResult)
    → WillSay given_by first old findings fault (concat_of (left_of before (to_come ending (placed_characters_from at (chars text))))) all
    → PassesRun given_by before at text after next rest old new
    → WillSay given_by first new findings fault (concat_of (left_of after (to_come ending (placed_characters_from next (chars rest))))) all
says_run given_by both first old new findings fault before after at next text rest ending all w p = record {
  so_far = record w.so_far { syllables = w.so_far.syllables ++ p.syllables };
  said = record {
    taken = p.taken ∙ ap (λ s. given_by s p.syllables) w.said.taken ∙ both first w.so_far.syllables p.syllables;
    findings_are = w.said.findings_are;
    fault_is = w.said.fault_is;
  };
  is = with_given w.so_far p.syllables _ ∙ ap (result_with w.so_far) (sym (p.law ending)) ∙ w.is;
}

-- what is said with the outputs of an input
pub says_outputs : {Taker : Type 0} (given_by : Taker → List PlacedSyllable → Taker) (first old new : Taker) (f g : List Finding) (i j : Option Fault) (left after : List HeadEvent → List (List ScoreOutput)) (x : HeadEvent)
    (outputs : List ScoreOutput) (xs : List HeadEvent) (all : BodyResult) → left (x ∷ xs) ≡ outputs ∷ after xs
    → ((r : BodyResult) → IsSaid given_by first old f i r → IsSaid given_by first new g j (result_with r outputs))
    → WillSay given_by first old f i (concat_of (left (x ∷ xs))) all → WillSay given_by first new g j (concat_of (after xs)) all
says_outputs given_by first old new f g i j left after x outputs xs all law step w = record {
  so_far = result_with w.so_far outputs;
  said = step w.so_far w.said;
  is = with_more w.so_far outputs (concat_of (after xs)) ∙ ap (λ lists. result_with w.so_far (concat_of lists)) (sym law) ∙ w.is;
}
