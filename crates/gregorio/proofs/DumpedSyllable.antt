-- The dump of a syllable has room if there is room for one like it, with notes or without.
use Rattle.std.proofs.Common.{◌≡◌, ℕ, ◌+◌, ◌*◌, ◌-◌, ◌≤◌, Bool, true, List, length, take_all, arith, ap, append-nil}
use Rattle.gabc_places.specs.BoundedList.{BoundedList, Fits, extended_by}
use Rattle.gabc_places.specs.Put.{filled_with}
use Rattle.gabc_neumes.specs.InForce.{InForce, passed}
use Rattle.gabc_body.specs.Canonical.{canonical_in_place}
use Rattle.gabc_score.specs.NoNotes.{has_no_notes}
use Rattle.gabc_body.specs.ScoreEvents.{Syllable}
use Rattle.gabc_body.specs.Syllable.{PlacedSyllable}
use Rattle.gabc_write.specs.DumpOfSyllables.{lines_of_syllable, steps_of_syllable}
use Rattle.gregorio_jobs.specs.declared.job.Format.{Format}
use Rattle.gregorio_jobs.specs.declared.job.Format.TheVariants.{Dump}
use Rattle.gregorio.specs.Streams.{next_number}
use Rattle.gregorio.specs.witness.Engine.{text_of_output}
use Rattle.gregorio.specs.machine.RunWriter.{RunWriterState, past_output, syllable_len}

-- n bytes are no more than are counted for a syllable with notes or without
within_len : (format : Format) (no_notes : Bool) (n canonical : ℕ) → format ≡ Dump → n ≤ 64 * canonical + 256 → (no_notes ≡ true → n ≤ 2 * canonical + 128) → n ≤ syllable_len format no_notes canonical
within_len format no_notes n canonical is short shorter = grind arith

-- The number and what is in force before are those after what was written.
module _ (w : RunWriterState) (s : PlacedSyllable) (dump : w.written.format ≡ Dump) (number : ℕ) (number_is : number ≡ next_number w.written.count)
    (short : length (lines_of_syllable number w.written.force s) ≤ 64 * length (canonical_in_place s) + 256)
    (shorter : has_no_notes s.made ≡ true → length (lines_of_syllable number w.written.force s) ≤ 2 * length (canonical_in_place s) + 128) where
  abbrev most : ℕ
  most = syllable_len w.written.format (has_no_notes s.made) (length (canonical_in_place s))

  lines_within : length (lines_of_syllable number w.written.force s) ≤ most
  lines_within = within_len w.written.format (has_no_notes s.made) (length (lines_of_syllable number w.written.force s)) (length (canonical_in_place s)) dump short shorter

  pub dump_in_len : length (text_of_output w.written (Syllable s)) ≤ most
  dump_in_len = grind (arith, lines_within)

  filled_is : (r : BoundedList ℕ) (bytes : List ℕ) → Fits r (length bytes) → filled_with r bytes ≡ extended_by r bytes
  filled_is r bytes fits = let few : length bytes ≤ r.limit - length r.items = omega (arith, fits) in ap (λ (all : List ℕ). extended_by r all) (take_all (r.limit - length r.items) bytes few)

  -- a writer that has put the lines into its room has written the syllable
  pub dump_is_written : (force : InForce) (out : BoundedList ℕ) → w.written.headed ≡ true → Fits w.out most
      → out ≡ filled_with w.out (lines_of_syllable number w.written.force s) → force ≡ passed w.written.force (steps_of_syllable s)
      → record w { written = record w.written { count = number; force = force }; out = out } ≡ past_output w (Syllable s)
  dump_is_written force out headed fits out_is force_is = grind (arith, append-nil, lines_within, filled_is)
