use Rattle.std.proofs.Common.{◌≡◌, ℕ, ◌+◌, Some, None, sym, ap, ◌∙◌, arith}
use Rattle.gabc_text.specs.declared.token_reader.TextToken.{TextToken}
use Rattle.gabc_text.specs.declared.token_reader.Reading.TheVariants.{Taken}
use Rattle.gabc_text.specs.declared.token_state.Step.{Step}
use Rattle.gabc_text.specs.machine.TokenState.{kind_at_end}
use Rattle.gabc_text.proofs.machine.FirstTokenIsRead.{fits_in, notes_at, settles_at, on_at, ends_at, none_at_end, some_at_end}
use Rattle.gabc_text.proofs.token_reader.first_token.Goals as goal

pub overflow_add-end : goal.overflow_add-end
overflow_add-end c =
    let f = fits_in c.args.text.now c.args.at c.loop-c.yielded _ _ c.loop-c.state c.loop-c.end c.in-Some.c c.loop-c.invariant c.in-Some.ensures.steps.0 c.utf8.text in
    omega (arith, f, c.len_utf8-end.ensures.value)

pub returns-in-Notes : goal.returns-in-Notes
returns-in-Notes c =
    notes_at c.args.text.now c.args.at c.loop-c.yielded _ _ c.loop-c.state c.loop-c.end c.in-Some.c c.loop-c.invariant c.in-Some.ensures.steps.0 (sym c.reading_at.ensures ∙ c.in-Notes.is)

pub returns-in-Settled : goal.returns-in-Settled
returns-in-Settled c =
    ap (λ (k : TextToken). Some k) c.other_token.ensures
    ∙ settles_at c.args.text.now c.args.at c.loop-c.yielded _ _ c.loop-c.state c.loop-c.end c.in-Some.c c.loop-c.invariant c.in-Some.ensures.steps.0 c.in-Settled.kind (sym c.reading_at.ensures ∙ c.in-Settled.is)

pub loop-c-preserved : goal.loop-c-preserved
loop-c-preserved c =
    on_at c.args.text.now c.args.at c.loop-c.yielded _ _ c.loop-c.state c.loop-c.end c.in-Some.c c.loop-c.invariant c.in-Some.ensures.steps.0 c.in-Stays.after _
    (sym c.reading_at.ensures ∙ c.in-Taken.is ∙ ap (λ (s : Step). Taken s) c.in-Stays.is) (ap (λ (n : ℕ). c.loop-c.end + n) c.len_utf8-end.ensures.value)

pub returns-in-Ends : goal.returns-in-Ends
returns-in-Ends c =
    ends_at c.args.text.now c.args.at c.loop-c.yielded _ _ c.loop-c.state c.loop-c.end c.in-Some.c c.loop-c.invariant c.in-Some.ensures.steps.0 c.in-Ends.kind c.in-Ends.effect _
    (sym c.reading_at.ensures ∙ c.in-Taken.is ∙ ap (λ (s : Step). Taken s) c.in-Ends.is) (ap (λ (n : ℕ). c.loop-c.end + n) c.len_utf8-end.ensures.value)

pub returns-in_err-kind : goal.returns-in_err-kind
returns-in_err-kind c =
    let h : kind_at_end c.loop-c.state ≡ None = sym c.kind_at_end.ensures ∙ c.in_err-kind.was in
    let none = none_at_end c.args.text.now c.args.at c.loop-c.yielded _ c.loop-c.state c.loop-c.end c.loop-c.invariant c.in-None.ensures.steps.0.0 h in
    grind (arith, none)

pub returns : goal.returns
returns c =
    let h : kind_at_end c.loop-c.state ≡ Some c.in_ok-kind.kind = sym c.kind_at_end.ensures ∙ c.in_ok-kind.was in
    ap (λ (k : TextToken). Some k) c.other_token-2.ensures
    ∙ some_at_end c.args.text.now c.args.at c.loop-c.yielded _ c.loop-c.state c.loop-c.end c.in_ok-kind.kind c.loop-c.invariant c.in-None.ensures.steps.0.0 h
