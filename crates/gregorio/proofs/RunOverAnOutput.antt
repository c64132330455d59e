-- A run over an output reads all of it, and writes it again.
use Rattle.std.proofs.Common.{◌≡◌, ℕ, ◌≤◌, List, length, length-append, Option, Some, IsSome, ap, subst, ◌∙◌, append-nil, arith}
use Rattle.std.specs.Io.KnownBytes.{Appends, Consumes, IsAtEnd}
use Rattle.gabc_places.specs.Calls.{Calls}
use Rattle.gabc_places.specs.declared.limits.Limits.{Limits}
use Rattle.gabc_places.specs.LargerLimits.{AreNoLess}
use Rattle.gregorio_jobs.specs.declared.job.Format.TheVariants.{Gabc}
use Rattle.gregorio_jobs.specs.declared.job.Job.{Job}
use Rattle.gregorio_jobs.specs.declared.job.Status.{Status}
use Rattle.gregorio_jobs.specs.declared.job.Status.TheVariants.{Whole}
use Rattle.gregorio.specs.declared.source_ending.SourceEnding.{SourceEnding}
use Rattle.gregorio.specs.declared.source_ending.SourceEnding.TheVariants.{Whole as Ended}
use Rattle.gregorio.specs.CanonicalAgain.{IsOutcomeAgain}
use Rattle.gregorio.specs.Outcome.{outcome_of, output_of, status_of}
use Rattle.gregorio.specs.Run.{Use, Done}
use Rattle.gregorio.specs.SourceBytes.{ReadsSource}

-- bytes that are consumed to the end are all of them
all_read : (bytes rest : List ℕ) (new : Option (List ℕ)) → Consumes (Some bytes) new rest → (length rest ≤ length bytes) × (IsAtEnd new → rest ≡ bytes)
all_read bytes rest new h = grind (arith, length-append, append-nil)

source_read : (limits : Limits) (bytes rest : List ℕ) (how : SourceEnding) (new : Option (List ℕ)) (calls_old calls_new : Calls) → length bytes ≤ limits.input → calls_new.failures ≡ calls_old.failures
    → ReadsSource (Some bytes) new calls_old calls_new limits.input rest how → (how ≡ Ended) × (rest ≡ bytes)
source_read limits bytes rest how new calls_old calls_new short none r = grind (arith, all_read)

module _ (again : (limits larger : Limits) (ending : SourceEnding) (bytes : List ℕ) → (let first = outcome_of limits ending bytes in AreNoLess limits larger → IsSome first.score.book → IsOutcomeAgain first (outcome_of larger Ended (output_of Gabc first))))
    (short : (limits : Limits) (ending : SourceEnding) (bytes : List ℕ) → length (output_of Gabc (outcome_of limits ending bytes)) ≤ limits.input) where
  pub output_repeated : (job : Job) (limits larger : Limits) (ending : SourceEnding) (bytes : List ℕ) (source out messages : Use) (status : Status)
      → (let first = outcome_of limits ending bytes in AreNoLess limits larger → IsSome first.score.book → job.format ≡ Gabc → source.old ≡ Some (output_of Gabc first) → source.calls_new.failures ≡ source.calls_old.failures
      → Done job larger source out messages status → Appends out.old out.new (output_of Gabc first) × (status ≡ Whole))
  output_repeated job limits larger ending bytes source out messages status no_less some gabc old none d =
      let first = outcome_of limits ending bytes in
      let c = output_of Gabc first in
      let i = d.input in
      let r = source_read larger c i.bytes i.ending source.new source.calls_old source.calls_new (omega (arith, short limits ending bytes, no_less.input)) none
      (subst (λ o. ReadsSource o source.new source.calls_old source.calls_new larger.input i.bytes i.ending) old i.reads) in
      let a = again limits larger ending bytes no_less some in
      let same : outcome_of larger i.ending i.bytes ≡ outcome_of larger Ended c = ap (λ how. outcome_of larger how i.bytes) r.0 ∙ ap (outcome_of larger Ended) r.1 in
      (subst (Appends out.old out.new) (ap (λ f. output_of f (outcome_of larger i.ending i.bytes)) gabc ∙ ap (output_of Gabc) same ∙ a.output) d.written, d.ends ∙ ap status_of same ∙ a.status)
