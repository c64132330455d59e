use Rattle.std.proofs.Common.{ap, ◌∙◌, Ok, List}
use Rattle.gabc_places.specs.BoundedList.{extended_by}
use Rattle.gabc_headers.specs.declared.head_event.HeadEvent.{HeadEvent}
use Rattle.gabc_headers.proofs.stages.BytesThroughADecoder.{push_gives, body_given}
use Rattle.gabc_headers.proofs.stage_laws.the_body_is_passed_on.Goals as goal

pub returns-clause-out : goal.returns-clause-out
returns-clause-out c =
    push_gives c.args.stage.now.limits c.args.stage.now.progress _ (Ok c.args.c) 2 c.args.out.now c.push.new.out c.push.ensures.events
    ∙ ap (λ (x : List HeadEvent). extended_by c.args.out.now x) (body_given c.args.stage.now.limits c.args.stage.now.progress c.args.c c.requires.after)
