use Rattle.std.proofs.Common.{◌∙◌, arith}
use Rattle.gregorio_c.specs.MessageBytes.{byte_in_text}
use Rattle.gregorio_c.proofs.RecordsArePut.{one_more_is_put}
use Rattle.gregorio_c.proofs.message_bytes.put_all.Goals as goal

pub loop-at-preserved : goal.loop-at-preserved
loop-at-preserved c =
    let i = c.loop-at.invariant in
    let there = c.byte_of.ensures.byte in
    record {
      put = one_more_is_put (byte_in_text c.args.reader.now) c.args.messages.now c.args.bytes.now c.loop-at.bytes c.loop-at.at _ c.byte_of.result c.loop-at-test.true (grind arith) i.put (rw i.same at there);
      same = c.byte_of.ensures.same ∙ i.same;
    }
