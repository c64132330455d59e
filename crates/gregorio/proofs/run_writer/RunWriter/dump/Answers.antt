use Rattle.std.proofs.Common.{◌≡◌, ◌≤◌, ◌+◌, ℕ, Bool, true, false, List, length, string_bytes, ap, sym, subst, ◌∙◌, arith}
use Rattle.gabc_places.specs.BoundedList.{BoundedList, Fits}
use Rattle.gabc_body.specs.Canonical.{canonical_in_place, starts_word}
use Rattle.gabc_body.specs.ScoreEvents.{Syllable}
use Rattle.gabc_score.specs.GivesSyllables.{spelled_canonical}
use Rattle.gabc_score.specs.NoNotes.{has_no_notes}
use Rattle.gregorio_jobs.specs.declared.job.Format.{Format}
use Rattle.gregorio_jobs.specs.declared.job.Format.TheVariants.{Dump}
use Rattle.gregorio.specs.witness.Engine.{Written}
use Rattle.gregorio.specs.machine.RunWriter.{RunWriterState, TakesText, past_output, syllable_len}
use Rattle.gregorio.proofs.DumpedSyllable.{dump_is_written}
use Rattle.gregorio.proofs.run_writer.RunWriter.dump.Goals as goal

-- the LF before a word is one byte
one_more : (starts : Bool) (text : List ℕ) → length (spelled_canonical starts text) ≤ length text + 1
one_more true text = omega arith
one_more false text = omega arith

-- there is room for a shorter syllable
room_for : (format : Format) (no_notes : Bool) (n m : ℕ) (r : BoundedList ℕ) → format ≡ Dump → n ≤ m → Fits r (syllable_len format false m) → Fits r (syllable_len format no_notes n)
room_for format no_notes n m r is le fits = subst (λ (f : Format). Fits r (syllable_len f no_notes n)) (sym is) (by no_notes (subst (λ (f : Format). Fits r (syllable_len f false m)) is fits))
  where
    by : (b : Bool) → Fits r (syllable_len Dump false m) → Fits r (syllable_len Dump b n)
    by true h = omega (arith, h, le)
    by false h = omega (arith, h, le)

pub returns : goal.returns
returns c = λ s spells.
    let i = c.self.inside in
    let number = c.saturating_add-self-inside.ensures in
    let w : Written = record { format = i.format; name = string_bytes i.name; all_warnings = i.all_warnings; headed = i.headed; count = i.count; force = i.alterations; errors = i.errors; ended = i.ended } in
    let v : RunWriterState = record { written = w; out = i.out; messages = i.messages } in
    let n = length c.args.syllable.canonical.now + 1 in
    let room : TakesText v n = subst (λ (u : RunWriterState). TakesText u n) (sym c.self.view_is) c.requires.room in
    let dump : i.format ≡ Dump = ap (λ (u : RunWriterState). u.written.format) c.self.view_is ∙ c.requires.dump in
    let few = subst (λ (t : List ℕ). length t ≤ n) (sym spells.canonical) (one_more (starts_word c.args.syllable.position) c.args.syllable.canonical.now) in
    dump_is_written v s dump c.saturating_add-self-inside.result number (c.dump_spelled.ensures.short s spells) (c.a_dump_without_notes_is_shorter.ensures _ _ s (omega (arith, number)))
    c.dump_spelled.new.alterations c.dump_spelled.new.out room.runs.headed (room_for i.format (has_no_notes s.made) (length (canonical_in_place s)) n i.out dump few room.fits)
    (c.dump_spelled.ensures.put s spells) (c.dump_spelled.ensures.alterations s spells)
    ∙ ap (λ (u : RunWriterState). past_output u (Syllable s)) c.self.view_is
