use Rattle.std.proofs.Common.{◌≡◌, List, sym, ap, ◌∙◌, subst}
use Rattle.std.proofs.lemmas.Str.{IsUtf8-past_char}
use Rattle.std.specs.Str.{chars, IsUtf8}
use Rattle.gabc_headers.specs.declared.events.HeaderEvent.{HeaderEvent}
use Rattle.gabc_headers.specs.machine.Events.{with_event}
use Rattle.std.specs.Str.Iter.{chars_rest}
use Rattle.gabc_headers.proofs.machines.OnePush.{Following, begin_at, pushed, ended}
use Rattle.gabc_headers.proofs.event_list.events_of_headers.Goals as goal

pub loop-c-init : goal.loop-c-init
loop-c-init c =
    let rest : chars_rest c.into_iter-c-iterator.result ≡ c.as_str.result.now = ap chars_rest c.into_iter-c-iterator.ensures.into_iter_gives ∙ c.chars-c-items.ensures.rest in
    let utf8 = subst IsUtf8 (sym rest) c.as_str.utf8 in (
      utf8,
      c.new-machine.ensures.bounds,
      begin_at c.args.text.now c.args.limit (chars_rest c.into_iter-c-iterator.result) c.new-machine.result c.new-events.result.items utf8
          (sym c.as_str.ensures.bytes ∙ sym rest) c.new-machine.ensures.starts c.new-events.ensures.items,
    )

pub loop-c-preserved-in-Continue-1 : goal.loop-c-preserved-in-Continue-1
loop-c-preserved-in-Continue-1 c =
    let i = c.loop-c.invariant in
    let step = c.in-Some.ensures.steps.0 in
    let next = pushed c.args.text.now c.args.limit (chars_rest c.loop-c.c-iterator) (chars_rest c.next.new.self) c.loop-c.machine c.push.new.self c.loop-c.events.items c.in-Some.c _ i.0 step c.in-Read-Some.ensures.pushes i.2 in (
      IsUtf8-past_char (chars_rest c.loop-c.c-iterator) (chars_rest c.next.new.self) c.in-Some.c i.0 step,
      c.push.ensures.bounds,
      subst (λ (x : List HeaderEvent). Following c.args.text.now c.args.limit (chars (chars_rest c.next.new.self)) c.push.new.self x) (ap (with_event c.loop-c.events.items) c.in-Read-Some.field-0-is ∙ sym c.in_ok-push-in-Read-Some.ensures.items) next,
    )

pub loop-c-preserved : goal.loop-c-preserved
loop-c-preserved c =
    let i = c.loop-c.invariant in
    let step = c.in-Some.ensures.steps.0 in
    let next = pushed c.args.text.now c.args.limit (chars_rest c.loop-c.c-iterator) (chars_rest c.next.new.self) c.loop-c.machine c.push.new.self c.loop-c.events.items c.in-Some.c _ i.0 step c.in-Read-None.ensures.pushes i.2 in (
      IsUtf8-past_char (chars_rest c.loop-c.c-iterator) (chars_rest c.next.new.self) c.in-Some.c i.0 step,
      c.push.ensures.bounds,
      subst (λ (x : List HeaderEvent). Following c.args.text.now c.args.limit (chars (chars_rest c.next.new.self)) c.push.new.self x) (ap (with_event c.loop-c.events.items) c.in-Read-None.field-0-is) next,
    )

pub returns-in-Ended : goal.returns-in-Ended
returns-in-Ended c =
    let i = c.loop-c.invariant in
    pushed c.args.text.now c.args.limit (chars_rest c.loop-c.c-iterator) (chars_rest c.next.new.self) c.loop-c.machine c.push.new.self c.loop-c.events.items c.in-Some.c _ i.0 c.in-Some.ensures.steps.0 c.in-Ended.ensures.pushes i.2

pub returns : goal.returns
returns c =
    let i = c.loop-c.invariant in
    ended c.args.text.now c.args.limit (chars_rest c.loop-c.c-iterator) c.loop-c.machine c.loop-c.events.items c.end.result c.in-None.ensures.steps.0.0 c.end.ensures i.2
