use Rattle.std.proofs.Common.{◌≡◌, [], chars, sym, ◌∙◌}
use Rattle.std.proofs.lemmas.Result.{IfOk-weaker}
use Rattle.std.proofs.lemmas.Str.{chars_from_encodes}
use Rattle.gabc_places.specs.Place.{placed_characters_from}
use Rattle.gabc_notes.specs.witness.ItemMachine.{events_left}
use Rattle.gabc_notes.specs.SnippetRead.{kept_chars_in, stop_after, kept_by}
use Rattle.gabc_notes.specs.NotesRead.{AreKeptChars}
use Rattle.gabc_notes.proofs.KeptText.{chars_returned}
use Rattle.gabc_notes.proofs.grammar.EmittedByRelations.{relations_emit}
use Rattle.gabc_notes.proofs.grammar.KeptByRelations.{chars_by_relations}
use Rattle.gabc_notes.proofs.grammar.ReadByRelations.{relations_are_computed}
use Rattle.gabc_notes.proofs.chars.kept_chars.Goals as goal

pub returns : goal.returns
returns c =
    let t = chars c.args.body.now in
    let xs = placed_characters_from c.args.at t in
    let s = stop_after c.args.split [] xs in
    let kept = chars_from_encodes (kept_by s.mark s.back) c.deref.result.now c.deref.utf8 (sym (c.deref.ensures ∙ (relations_are_computed _ _ _ _ _ c.in_ok-read.ensures).kept_is)) in
    IfOk-weaker c.kept_chars_by.result (λ cs. cs ≡ kept_chars_in c.args.split c.args.macros xs) (λ cs. AreKeptChars c.args.at c.args.split c.args.macros t cs)
    (λ cs e. chars_by_relations c.args.at c.args.split c.args.macros t _ cs c.in_ok-read.ensures e)
    (chars_returned c.kept_chars_by.result c.args.split c.args.macros xs (events_left c.new-stage.result xs) (chars c.deref.result.now) (sym kept) (relations_emit c.args.split c.args.macros xs _ (c.new-stage.ensures.events xs)) c.kept_chars_by.ensures)
