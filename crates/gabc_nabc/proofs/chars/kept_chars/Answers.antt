use Rattle.std.proofs.Common.{◌≡◌, chars, sym, ◌∙◌}
use Rattle.std.proofs.lemmas.Result.{IfOk-weaker}
use Rattle.std.proofs.lemmas.Str.{chars_from_encodes}
use Rattle.gabc_places.specs.Place.{placed_characters_from}
use Rattle.gabc_nabc.specs.witness.DescriptorMachine.{events_left}
use Rattle.gabc_nabc.specs.NabcRead.{AreKeptChars}
use Rattle.gabc_nabc.specs.SnippetRead.{before_end, from_end, kept_before, kept_chars_in}
use Rattle.gabc_nabc.proofs.KeptText.{chars_returned}
use Rattle.gabc_nabc.proofs.grammar.EmittedByRelations.{relations_emit}
use Rattle.gabc_nabc.proofs.grammar.KeptByRelations.{chars_by_relations}
use Rattle.gabc_nabc.proofs.grammar.ReadByRelations.{relations_are_computed}
use Rattle.gabc_nabc.proofs.chars.kept_chars.Goals as goal

pub returns : goal.returns
returns c =
    let t = chars c.args.body.now in
    let xs = placed_characters_from c.args.at t in
    let kept = chars_from_encodes (kept_before (before_end t) (from_end t)) c.deref.result.now c.deref.utf8 (sym (c.deref.ensures ∙ (relations_are_computed _ _ _ c.in_ok-read.ensures).kept_is)) in
    IfOk-weaker c.kept_chars_by.result (λ cs. cs ≡ kept_chars_in c.args.at t) (λ cs. AreKeptChars c.args.at t cs)
    (λ cs e. chars_by_relations c.kept_characters_are_the_kept_text.ensures c.args.at t _ cs c.in_ok-read.ensures e)
    (chars_returned c.kept_chars_by.result c.args.at t (events_left c.new-stage.result xs) (chars c.deref.result.now) (sym kept) (relations_emit xs _ (c.new-stage.ensures.events xs)) c.kept_chars_by.ensures)
