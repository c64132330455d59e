-- The outcome of an output that is compiled again.
use Rattle.std.specs.Prelude.{◌≡◌, ℕ, List, true, false, Some, None}
use Rattle.std.specs.List.{list_any}
use Rattle.gabc_write.specs.DumpOfSyllables.{dump_text}
use Rattle.gabc_write.specs.SyllableMeaning.{AreSame}
use Rattle.gregorio_jobs.specs.declared.job.Format.TheVariants.{Gabc, Dump}
use Rattle.gregorio_jobs.specs.declared.job.Status.TheVariants.{Whole}
use Rattle.gregorio.specs.declared.outcome.Outcome.{Outcome}
use Rattle.gregorio.specs.Outcome.{output_of, is_error_finding, status_of}

-- It is whole, and no error is found in it. It has the same book, its syllables say the same, its
-- canonical output is the same, and its dump is that of this book and of these syllables.
pub record IsOutcomeAgain (first again : Outcome) : Type 0 where
  pub fault : again.score.fault ≡ None
  pub errors : list_any is_error_finding again.score.findings ≡ false
  pub status : status_of again ≡ Whole
  pub book : again.score.book ≡ first.score.book
  pub syllables : AreSame again.score.syllables first.score.syllables
  pub output : output_of Gabc again ≡ output_of Gabc first
  pub dump : (book : List (List ℕ × List ℕ)) → first.score.book ≡ Some book → output_of Dump again ≡ dump_text true book first.score.syllables
