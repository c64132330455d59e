use Rattle.gregorio_state.specs.Fields.{score_of, with_held}
use Rattle.gregorio_state.specs.StateBytes.{score_parts}
use Rattle.gregorio_state.proofs.PartsAreWritten.{taken_as_one}
use Rattle.gregorio_state.proofs.fields.ScoreFields.write.Goals as goal

pub returns : goal.returns
returns g c =
    rw (c.put_text-2.ensures, c.put_opener-2.ensures, c.put_opener.ensures, c.put_flag-2.ensures, c.put_text.ensures, c.put_alters.ensures, c.put_clef.ensures, c.put_flag.ensures, c.put-2.ensures, c.number_of_spans.ensures, c.put_u32-2.ensures, c.put_u32.ensures, c.put_u16.ensures, c.put.ensures)
    (taken_as_one g.S.Put.taken g.met.S.Put.taken_nothing g.met.S.Put.taken_both c.args.out.now (score_parts (with_held (g.H.PutText.text c.args.held.now) (score_of c.args.self.now))))
