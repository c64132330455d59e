use Rattle.std.proofs.Common.{List, ap, ◌∙◌}
use Rattle.std.specs.List.{list_any}
use Rattle.gabc_headers.specs.declared.head_event.HeadEvent.{HeadEvent}
use Rattle.gregorio.specs.machine.HeldHeaders.{is_error_event}
use Rattle.gregorio.proofs.pieces.HeadersAreRead.{given_of_input}
use Rattle.gregorio.proofs.held_headers.push_character.Goals as goal

pub returns-clause-error : goal.returns-clause-error
returns-clause-error c =
    let given = given_of_input c.args.heads.now _ _ c.args.events.now c.clear.new.self c.push.new.out c.slice.result.now c.clear.ensures c.push.ensures.events c.slice.ensures in
    c.has_error.ensures ∙ ap (λ (events : List HeadEvent). list_any is_error_event events) given.is
