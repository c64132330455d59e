use Rattle.gabc_headers.proofs.stages.BytesThroughADecoder.{push_gives}
use Rattle.gabc_headers.proofs.stage_laws.an_input_is_taken.Goals as goal

pub returns-clause-out : goal.returns-clause-out
returns-clause-out c = push_gives c.args.stage.now.limits c.args.stage.now.progress _ c.args.input 2 c.args.out.now c.push.new.out c.push.ensures.events
