use Rattle.std.proofs.Common.{◌≤◌, ◌∙◌, ap, length, string_bytes, sym, subst, arith}
use Rattle.gabc_places.specs.BoundedList.{Fits}
use Rattle.gabc_body.specs.Canonical.{canonical_in_place}
use Rattle.gabc_score.specs.NoNotes.{has_no_notes}
use Rattle.gabc_body.specs.ScoreEvents.{Syllable}
use Rattle.gabc_body.specs.Syllable.{placed_of}
use Rattle.gregorio.specs.witness.Engine.{Written, text_of_output}
use Rattle.gregorio.specs.machine.RunWriter.{RunWriterState, past_output, syllable_len}
use Rattle.gregorio.proofs.DumpedSyllable.{dump_in_len, dump_is_written}
use Rattle.gregorio.proofs.run_writer.RunWriter.syllable.Goals as goal

pub returns-in-Dump-clause-writes : goal.returns-in-Dump-clause-writes
returns-in-Dump-clause-writes c =
    let i = c.self.inside in
    let s = placed_of c.args.lent.syllable.now in
    let number = c.saturating_add-self-inside.ensures in
    let w : Written = record { format = i.format; name = string_bytes i.name; all_warnings = i.all_warnings; headed = i.headed; count = i.count; force = i.alterations; errors = i.errors; ended = i.ended } in
    let v : RunWriterState = record { written = w; out = i.out; messages = i.messages } in
    let fits = subst (λ (u : RunWriterState). Fits u.out (syllable_len u.written.format (has_no_notes s.made) (length (canonical_in_place s)))) (sym c.self.view_is) c.requires.fits in
    dump_is_written v s c.in-Dump.is c.saturating_add-self-inside.result number c.dump_syllable.ensures.short (c.a_dump_without_notes_is_shorter.ensures _ _ s (omega (arith, number)))
    c.dump_syllable.new.alterations c.dump_syllable.new.out c.if-not-self.false fits c.dump_syllable.ensures.put c.dump_syllable.ensures.alterations
    ∙ ap (λ (u : RunWriterState). past_output u (Syllable s)) c.self.view_is

pub returns-in-Dump-clause-short : goal.returns-in-Dump-clause-short
returns-in-Dump-clause-short c =
    let i = c.self.inside in
    let s = placed_of c.args.lent.syllable.now in
    let number = c.saturating_add-self-inside.ensures in
    let w : Written = record { format = i.format; name = string_bytes i.name; all_warnings = i.all_warnings; headed = i.headed; count = i.count; force = i.alterations; errors = i.errors; ended = i.ended } in
    let v : RunWriterState = record { written = w; out = i.out; messages = i.messages } in
    subst (λ (u : RunWriterState). length (text_of_output u.written (Syllable s)) ≤ syllable_len u.written.format (has_no_notes s.made) (length (canonical_in_place s))) c.self.view_is
    (dump_in_len v s c.in-Dump.is c.saturating_add-self-inside.result number c.dump_syllable.ensures.short (c.a_dump_without_notes_is_shorter.ensures _ _ s (omega (arith, number))))
