-- What is written of an output stays in the room that is counted for it.
use Rattle.std.proofs.Common.{◌≡◌, ℕ, ◌≤◌, List, [], ◌∷◌, length, length-append, arith, ap}
use Rattle.std.specs.List.{All}
use Rattle.std.proofs.lemmas.List.Elements.{All-cons, All-head, All-nil, All-tail}
use Rattle.gabc_places.specs.declared.limits.Limits.{Limits}
use Rattle.gabc_body.specs.Canonical.{canonical_in_place}
use Rattle.gabc_score.specs.NoNotes.{has_no_notes}
use Rattle.gabc_body.specs.ScoreEvents.{ScoreOutput, Syllable, syllables_in}
use Rattle.gabc_body.specs.Syllable.{PlacedSyllable}
use Rattle.gregorio_jobs.specs.declared.job.Format.{Format}
use Rattle.gabc_score.specs.ScoreStage.{IsWithin}
use Rattle.gregorio.specs.witness.Engine.{Written, lines_of_output, text_of_output}
use Rattle.gregorio.specs.machine.RunWriter.{RunWriterState, with_bytes, line_room, lines_room, syllable_len, text_room, texts_room, IsInRoom}

-- how much of its room an output takes
abbrev pub IsOutputShort : Limits → RunWriterState → ScoreOutput → Type 0
IsOutputShort limits w o = (length (lines_of_output w.written o) ≤ line_room w.written.name) × (length (text_of_output w.written o) ≤ text_room w.written.format limits.syllable o)

pub syllable_is_short : (limits : Limits) (w : RunWriterState) (s : PlacedSyllable) (outputs : List ScoreOutput) (a b : ℕ) → IsInRoom limits a b w (Syllable s ∷ outputs)
    → length (text_of_output w.written (Syllable s)) ≤ syllable_len w.written.format (has_no_notes s.made) (length (canonical_in_place s)) → IsOutputShort limits w (Syllable s)
syllable_is_short limits w s outputs a b h short = grind (arith, All-head)

others_within : (limits : Limits) (o : ScoreOutput) (outputs : List ScoreOutput) → All (IsWithin limits) (syllables_in (o ∷ outputs)) → All (IsWithin limits) (syllables_in outputs)
others_within limits (Syllable s) outputs h = All-tail (IsWithin limits) s (syllables_in outputs) h
others_within limits _ outputs h = h

-- `v` is what is to be written after the output
pub output_in_room : (limits : Limits) (a b : ℕ) (w : RunWriterState) (o : ScoreOutput) (outputs : List ScoreOutput) (v : Written) → v.name ≡ w.written.name → v.format ≡ w.written.format
    → IsOutputShort limits w o → IsInRoom limits a b w (o ∷ outputs) → IsInRoom limits a b (record (with_bytes w (text_of_output w.written o) (lines_of_output w.written o)) { written = v }) outputs
output_in_room limits a b w o outputs v name format short h =
    let lines = ap (λ (n : List ℕ). lines_room n outputs) name in
    let texts = ap (λ (f : Format). texts_room f limits.syllable outputs) format in
    record {
      lines = omega (arith, h.lines, short.0, lines, length-append w.messages.items (lines_of_output w.written o));
      texts = omega (arith, h.texts, short.1, texts, length-append w.out.items (text_of_output w.written o));
      within = others_within limits o outputs h.within;
    }

-- ---- of several outputs

first_within : (limits : Limits) (o : ScoreOutput) (outputs : List ScoreOutput) → All (IsWithin limits) (syllables_in (o ∷ outputs)) → All (IsWithin limits) (syllables_in (o ∷ []))
first_within limits o outputs h = grind (arith, All-nil, All-cons, All-head)

pub first_in_room : (limits : Limits) (a b : ℕ) (w : RunWriterState) (o : ScoreOutput) (outputs : List ScoreOutput) → IsInRoom limits a b w (o ∷ outputs) → IsInRoom limits a b w (o ∷ [])
first_in_room limits a b w o outputs h = grind (arith, first_within)
