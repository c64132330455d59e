-- The streams of a run: its output, its messages and its status; the texts of which an output is
-- joined; when two ways of writing it come to the same.
use Rattle.std.specs.Prelude.{◌≡◌, ℕ, ◌+◌, ◌-◌, ◌^◌, min, List, [], ◌∷◌, ◌++◌, Bool, Option, encode_utf8_all, codes, map, if◌then◌else◌}
use Rattle.std.specs.Borrow.{Bor}
use Rattle.gabc_places.specs.declared.code.Fault.{Fault}
use Rattle.gabc_places.specs.StageLaw.{concat_of}
use Rattle.gabc_headers.specs.Canonical.{canonical_heads}
use Rattle.gabc_neumes.specs.InForce.{InForce, passed}
use Rattle.gabc_body.specs.Canonical.{canonical_in_place}
use Rattle.gabc_body.specs.Syllable.{PlacedSyllable}
use Rattle.gabc_write.specs.DumpLines.{dump_heads, end_line}
use Rattle.gabc_write.specs.DumpOfSyllables.{lines_of_syllable, steps_of_syllable}
use Rattle.gregorio.specs.declared.outcome.Outcome.{Outcome}
use Rattle.gregorio.specs.Outcome.{output_of, messages_of, status_of}
use Rattle.gregorio_jobs.specs.declared.job.Format.{Format}
use Rattle.gregorio_jobs.specs.declared.job.Format.TheVariants.{Gabc, Dump}
use Rattle.gregorio_jobs.specs.declared.job.Job.{Job}
use Rattle.gregorio_jobs.specs.declared.job.Status.{Status}

-- The bytes of an output and of messages, the status of the run that writes them, and the fatal
-- fault that stopped it, if there is one.
pub record Streams : Type 0 where
  pub output : List ℕ
  pub messages : List ℕ
  pub status : Status
  pub fault : Option Fault

-- nothing more is written
abbrev pub ended_with : Status → Option Fault → Streams
ended_with status fault = record { output = []; messages = []; status = status; fault = fault }

-- those of a whole run of a job
abbrev pub streams_of_outcome : Job → Outcome → Streams
streams_of_outcome job outcome = record { output = output_of job.format outcome; messages = messages_of job outcome; status = status_of outcome; fault = outcome.score.fault }

-- these bytes, and what follows them
abbrev pub after_bytes : List ℕ → List ℕ → Streams → Streams
after_bytes output messages rest = record rest { output = output ++ rest.output; messages = messages ++ rest.messages }

-- Once two ends have taken these streams, they are as two others are that have taken those.
pub record TakeTheSame {A B : Type 0} (takes : A → List ℕ → A) (takes_too : B → List ℕ → B) (out : A) (messages : B) (streams : Streams) (out_then : A) (messages_then : B) (streams_then : Streams) : Type 0 where
  pub output : takes out_then streams_then.output ≡ takes out streams.output
  pub lines : takes_too messages_then streams_then.messages ≡ takes_too messages streams.messages
  pub status : streams_then.status ≡ streams.status
  pub fault : streams_then.fault ≡ streams.fault

-- the text before the syllables
abbrev pub heads_text : Format → List (List ℕ × List ℕ) → List ℕ
heads_text Gabc book = encode_utf8_all (canonical_heads book)
heads_text Dump book = dump_heads book

-- a syllable with its number, before which this is in force
abbrev pub syllable_text : Format → ℕ → InForce → PlacedSyllable → List ℕ
syllable_text Gabc number force s = canonical_in_place s
syllable_text Dump number force s = lines_of_syllable number force s

-- the clef and the alterations in force after a syllable: the canonical form does not track them
abbrev pub force_after : Format → InForce → PlacedSyllable → InForce
force_after Gabc force s = force
force_after Dump force s = passed force (steps_of_syllable s)

-- the text after n syllables, of a whole score or of a part of one
abbrev pub last_text : Format → Bool → ℕ → List ℕ
last_text Gabc whole count = codes "\n"
last_text Dump whole count = if whole then end_line count else []

-- the number after this one; the last value of a `u64` stays
abbrev pub next_number : ℕ → ℕ
next_number count = min (count + 1) (2 ^ 64 - 1)

-- the texts of syllables after n, before which this is in force
abbrev pub texts_after : Format → ℕ → InForce → List PlacedSyllable → List ℕ
texts_after format count force [] = []
texts_after format count force (s ∷ syllables) =
    syllable_text format (next_number count) force s ++ texts_after format (next_number count) (force_after format force s) syllables

abbrev pub count_after : ℕ → List PlacedSyllable → ℕ
count_after count [] = count
count_after count (s ∷ syllables) = count_after (next_number count) syllables

-- the bytes of pieces, one after the other
abbrev pub joined : List (Bor (List ℕ)) → List ℕ
joined pieces = concat_of (map (λ (p : Bor (List ℕ)). p.now) pieces)
