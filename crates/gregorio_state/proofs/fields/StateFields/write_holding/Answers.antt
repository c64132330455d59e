use Rattle.std.proofs.Common.{arith}
use Rattle.gregorio_state.specs.Fields.{fields_of, holding}
use Rattle.gregorio_state.specs.StateBytes.{state_parts}
use Rattle.gregorio_state.proofs.LengthsOfStates.{short_pending, short_texts}
use Rattle.gregorio_state.proofs.PartsAreWritten.{taken_as_one}
use Rattle.gregorio_state.proofs.fields.StateFields.write_holding.Goals as goal

pub overflow_cast-self : goal.overflow_cast-self
overflow_cast-self g c = omega (arith, short_pending (holding (g.H.PutText.text c.args.held.now) (fields_of c.args.self.now)) c.requires)

pub write-requires : goal.write-requires
write-requires g c = short_texts (holding (g.H.PutText.text c.args.held.now) (fields_of c.args.self.now)) c.requires

pub returns : goal.returns
returns g c =
    rw (c.write.ensures, c.put_flag-3.ensures, c.put_flag-2.ensures, c.put-5.ensures, c.put-4.ensures, c.put_place.ensures, c.put_u32-4.ensures, c.put_u32-3.ensures, c.put_u32-2.ensures, c.put_u32.ensures, c.put_flag.ensures, c.put-3.ensures, c.number_of_format.ensures, c.put-2.ensures, c.put.ensures)
    (taken_as_one g.S.Put.taken g.met.S.Put.taken_nothing g.met.S.Put.taken_both c.args.out.now (state_parts (holding (g.H.PutText.text c.args.held.now) (fields_of c.args.self.now))))
