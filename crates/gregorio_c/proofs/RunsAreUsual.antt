-- A run under small limits, or under the default ones, writes what one under the default ones does.
use Rattle.std.proofs.Common.{◌≡◌, ℕ, List, Result, Ok, Err, IfOk, sym, ap, ◌∙◌}
use Rattle.gabc_places.specs.declared.limits.Limits.{Limits}
use Rattle.gabc_places.specs.Limits.{AreUsual}
use Rattle.gregorio.specs.declared.outcome.Outcome.{Outcome}
use Rattle.gregorio.specs.declared.source_ending.SourceEnding.TheVariants.{Whole}
use Rattle.gregorio.specs.Outcome.{outcome_of, output_of, lines_of, status_of}
use Rattle.gregorio.specs.Streams.{Streams}
use Rattle.gregorio_c.specs.Answers.{stdin_name}
use Rattle.gregorio_c.specs.declared.request.Request.{Request}
use Rattle.gregorio_c.specs.machine.Runs.{IsAsUsual}
use Rattle.gregorio_c.specs.machine.Streams.{streams_of_score}

module _ (request : Request) (usual : Limits) (is_usual : AreUsual usual.header usual.syllable usual.input) (score : List ℕ) where
  -- what is made under the default limits
  pub made_as_usual : {X E : Type 0} (limits_of : X → Limits) (made : Result X E) → IfOk made (λ x. limits_of x ≡ usual) → IfOk made (λ x. IsAsUsual request (limits_of x) score)
  made_as_usual limits_of (Ok x) is = record { usual = usual; is_usual = is_usual; same = ap (λ (l : Limits). streams_of_score request l score) is }
  made_as_usual limits_of (Err e) is = tt

  abbrev streams_by : Outcome → Streams
  streams_by outcome = record { output = output_of request.format outcome; messages = lines_of stdin_name request.all_warnings outcome.score; status = status_of outcome; fault = outcome.score.fault }

  -- what is made under small limits that change nothing
  pub small_as_usual : (limits small : Limits) → limits ≡ small → outcome_of usual Whole score ≡ outcome_of small Whole score → IsAsUsual request limits score
  small_as_usual limits small is same = record {
    usual = usual;
    is_usual = is_usual;
    same = ap (λ (l : Limits). streams_of_score request l score) is ∙ ap streams_by (sym same);
  }
