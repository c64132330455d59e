use Rattle.std.proofs.Common.{◌≤◌, length, arith, ◌∙◌}
use Rattle.gregorio_state.specs.Fields.{fields_of, holding}
use Rattle.gregorio_state.specs.StateBytes.{state_bytes}
use Rattle.gabc_places.specs.Filling.{filled_whole}
use Rattle.gregorio_state.proofs.fields.StateFields.save_holding.Goals as goal

pub returns-clause-written : goal.returns-clause-written
returns-clause-written g c =
    let bytes = state_bytes (holding (g.H.PutText.text c.args.held.now) (fields_of c.args.self.now)) in
    let room : length bytes ≤ length c.args.buf.now = omega (arith, c.len_holding-len.ensures.len, c.if-buf-len.false) in
    c.fill.ensures ∙ filled_whole c.args.buf.now bytes room
