-- What a fresh engine will write of an input is what a run writes of it as a whole.
use Rattle.std.proofs.Common.{◌≡◌, ℕ, ◌+◌, ◌<◌, ◌^◌, List, [], ◌∷◌, ◌++◌, length, Bool, false, not, ◌||◌, Option, None, is_some, Result, refl, ap, ◌∙◌, arith, IfSome}
use Rattle.std.proofs.lemmas.Bool.Decides.{nat_tests}
use Rattle.std.specs.List.{flat_map}
use Rattle.gabc_places.specs.declared.code.Fault.{Fault}
use Rattle.gabc_places.specs.declared.code.Finding.{Finding}
use Rattle.gabc_places.specs.declared.limits.Limits.{Limits}
use Rattle.gabc_headers.specs.declared.heads.Heads.{Heads}
use Rattle.gabc_headers.specs.declared.heads.HeadFault.{HeadFault}
use Rattle.gabc_neumes.specs.InForce.{InForce, nothing_in_force}
use Rattle.gabc_body.specs.Canonical.{canonical_in_place}
use Rattle.gabc_body.specs.declared.ending.InputEnding.{InputEnding}
use Rattle.gabc_body.specs.declared.ending.InputEnding.TheVariants as score_ending
use Rattle.gabc_body.specs.declared.score.Score.{Score}
use Rattle.gabc_places.specs.declared.place.Char.{Char}
use Rattle.gabc_body.specs.witness.EmittedScore.{emitted_score_by}
use Rattle.gabc_body.specs.Body.{body_of}
use Rattle.gabc_body.specs.declared.events.BodyEvent.{BodyEvent}
use Rattle.gabc_places.specs.declared.place.Place.{Place}
use Rattle.gabc_body.specs.ScoreEvents.{ScoreOutput, findings_in, syllables_in, fault_in, has_end, is_whole as is_whole_score}
use Rattle.gabc_body.specs.Syllable.{PlacedSyllable}
use Rattle.gabc_write.specs.DumpOfSyllables.{lines_of_syllable, lines_of_syllables}
use Rattle.gregorio_jobs.specs.declared.job.Format.{Format}
use Rattle.gregorio_jobs.specs.declared.job.Format.TheVariants.{Gabc, Dump}
use Rattle.gregorio.specs.declared.source_ending.SourceEnding.{SourceEnding}
use Rattle.gregorio.specs.Outcome.{ending_by, is_cut_short, text_in, output_by, lines_of, status_with}
use Rattle.gregorio.specs.Streams.{after_bytes, force_after, heads_text, last_text, next_number, texts_after, count_after}
use Rattle.gregorio.specs.witness.Engine.{Written, text_of_heads}
use Rattle.gregorio.proofs.StreamsOfOutputs.{said}

-- ---- numbers

next_is : (n : ℕ) → n + 1 < 2 ^ 64 → next_number n ≡ n + 1
next_is n h = grind (arith, nat_tests)

-- no count saturates if there are fewer syllables than that
pub count_is : (n : ℕ) (ss : List PlacedSyllable) → n + length ss < 2 ^ 64 → count_after n ss ≡ n + length ss
count_is n [] h = omega arith
count_is n (s ∷ ss) h = grind (arith, count_is (n + 1) ss (omega (arith, h)), next_is)

lines_are : (n : ℕ) (force : InForce) (ss : List PlacedSyllable) → n + length ss < 2 ^ 64 → texts_after Dump n force ss ≡ lines_of_syllables (n + 1) force ss
lines_are n force [] h = refl
lines_are n force (s ∷ ss) h =
    let e = next_is n (omega (arith, h)) in
    let after = force_after Dump force s in
    ap (λ (k : ℕ). lines_of_syllable k force s ++ texts_after Dump k after ss) e
    ∙ ap (λ (t : List ℕ). lines_of_syllable (n + 1) force s ++ t) (lines_are (n + 1) after ss (omega (arith, h)))

canonical_are : (n : ℕ) (force : InForce) (ss : List PlacedSyllable) → texts_after Gabc n force ss ≡ flat_map canonical_in_place ss
canonical_are n force [] = refl
canonical_are n force (s ∷ ss) = ap (λ (t : List ℕ). canonical_in_place s ++ t) (canonical_are (next_number n) force ss)

-- the text after the headers
pub text_is : (format : Format) (whole : Bool) (book : List (List ℕ × List ℕ)) (ss : List PlacedSyllable) → length ss < 2 ^ 64
    → heads_text format book ++ (texts_after format 0 nothing_in_force ss ++ last_text format whole (count_after 0 ss)) ≡ text_in format whole book ss
text_is format whole book ss h = grind (arith, canonical_are, lines_are, count_is)

-- ---- how a run ended

-- a fault that stopped the text is one of the score, or another is
abbrev StopsAt : InputEnding → Option Fault → Type 0
StopsAt (score_ending.At fault) None = ⊥
StopsAt _ _ = Unit {0}

-- whether a score is whole is what the outcome says
pub whole_is : (ending : SourceEnding) (stop o : Option Fault) → StopsAt (ending_by ending stop) o → is_whole_score (ending_by ending stop) o ≡ not (is_some o || is_cut_short ending o)
whole_is ending stop o h = grind arith

body_stops : (limits : Limits) (head : ℕ) (found : List Finding) (at : Place) (fault : Fault) (xs : List Char) (lists : List (List BodyEvent))
    → StopsAt (score_ending.At fault) (body_of limits head found at (score_ending.At fault) xs lists).fault
body_stops limits head found at fault xs lists = grind arith

pub stops_at : (limits : Limits) (ending : InputEnding) (t : List ℕ) (r : Result Heads HeadFault) → StopsAt ending (emitted_score_by limits ending t r).fault
stops_at limits ending t r = grind (arith, body_stops)

-- ---- the streams

-- what outputs say of a score
pub record SaysScore (ending : InputEnding) (outputs : List ScoreOutput) (score : Score) : Type 0 where
  pub findings : findings_in outputs ≡ score.findings
  pub syllables : syllables_in outputs ≡ score.syllables
  pub fault : fault_in outputs ≡ score.fault
  pub end : has_end outputs ≡ is_whole_score ending score.fault

module _ (w : Written) (no_syllable : w.count ≡ 0) (no_force : w.force ≡ nothing_in_force) (no_error : w.errors ≡ false) (ending : SourceEnding) (stop : Option Fault) (outputs : List ScoreOutput) (score : Score)
    (score_is : SaysScore (ending_by ending stop) outputs score) (stops : StopsAt (ending_by ending stop) score.fault) (few : length score.syllables < 2 ^ 64) where
  whole_same : has_end outputs ≡ not (is_some score.fault || is_cut_short ending score.fault)
  whole_same = score_is.end ∙ whole_is ending stop score.fault stops

  -- with headers
  output_with : (book : List (List ℕ × List ℕ)) → heads_text w.format book ++ (texts_after w.format w.count w.force (syllables_in outputs) ++ last_text w.format (has_end outputs) (count_after w.count (syllables_in outputs)))
      ≡ text_in w.format (not (is_some score.fault || is_cut_short ending score.fault)) book score.syllables
  output_with book = grind (arith, whole_same, text_is)

  -- the headers are a book, which `read` is, or there is none
  pub streams_same : (o : Option (List (List ℕ × List ℕ))) (read : List (List ℕ × List ℕ)) → IfSome o (λ book. read ≡ book)
      → after_bytes (text_of_heads w read (is_some o)) [] (said (record w { headed = is_some o }) outputs)
      ≡ record {
        output = output_by w.format (not (is_some score.fault || is_cut_short ending score.fault)) o score.syllables;
        messages = lines_of w.name w.all_warnings score;
        status = status_with score (is_cut_short ending score.fault);
        fault = score.fault;
      }
  streams_same o read e = grind (arith, output_with)
