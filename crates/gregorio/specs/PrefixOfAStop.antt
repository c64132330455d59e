-- The outcome of the prefix of an input whose run is stopped after the headers, by a fault or by a
-- source that failed.
use Rattle.std.specs.Prelude.{◌≡◌, ℕ, List, ◌++◌, length, take, true, None}
use Rattle.gabc_places.specs.declared.limits.Limits.{Limits}
use Rattle.gabc_places.specs.Text.{decoded_of, text_of_bytes}
use Rattle.gabc_body.specs.SyllablesOfUnits.{whole_prefix, IsBodyCut, AreBeforeBodyStop}
use Rattle.gabc_body.specs.Units.{BodyCutting}
use Rattle.gabc_write.specs.DumpLines.{end_line}
use Rattle.gregorio_jobs.specs.declared.job.Format.TheVariants.{Gabc, Dump}
use Rattle.gregorio.specs.declared.outcome.Outcome.{Outcome}
use Rattle.gregorio.specs.declared.source_ending.SourceEnding.{SourceEnding}
use Rattle.gregorio.specs.declared.source_ending.SourceEnding.TheVariants.{Whole}
use Rattle.gregorio.specs.Outcome.{outcome_of, output_of}

-- It is read without a fault. It has the same book and the same syllables, its canonical output is
-- the same, and its dump has one line more, the last.
pub record IsOutcomeOfPrefix (first prefix : Outcome) : Type 0 where
  pub fault : prefix.score.fault ≡ None
  pub book : prefix.score.book ≡ first.score.book
  pub syllables : prefix.score.syllables ≡ first.score.syllables
  pub output : output_of Gabc prefix ≡ output_of Gabc first
  pub dump : output_of Dump prefix ≡ output_of Dump first ++ end_line (length first.score.syllables)

-- The first n bytes of an input that ended so and has this book are its prefix: their text is that
-- of the input through the `)` of the last unit that ends before the stop, or through the `%%`, if
-- none does.
pub record IsPrefixBeforeStop (limits : Limits) (ending : SourceEnding) (bytes : List ℕ) (book : List (List ℕ × List ℕ)) (count : ℕ) : Type 0 where
  pub cut : BodyCutting
  pub before : ℕ
  pub is_cut : IsBodyCut book (text_of_bytes limits.input bytes) cut
  pub stand : AreBeforeBodyStop limits book (text_of_bytes limits.input bytes) before
  pub text : decoded_of limits true (take count bytes) ≡ record { text = whole_prefix (text_of_bytes limits.input bytes) cut before; fault = None }
  pub outcome : IsOutcomeOfPrefix (outcome_of limits ending bytes) (outcome_of limits Whole (take count bytes))
