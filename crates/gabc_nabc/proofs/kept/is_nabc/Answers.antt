use Rattle.std.proofs.Common.{◌≡◌, None, Some, false, true, arith}
use Rattle.std.specs.Str.Iter.{chars_rest}
use Rattle.std.proofs.lemmas.Str.{IsUtf8-past_char}
use Rattle.gabc_nabc.specs.Table.{nabc}
use Rattle.gabc_nabc.specs.CharClass.{class_of_character}
use Rattle.gabc_nabc.specs.witness.DescriptorMachine.{next_state}
use Rattle.gabc_nabc.proofs.machine.MachineReadsTable.{machine, snippets_read}
use Rattle.gabc_patterns.proofs.TextIsReadByCharacter.{one_read, one_next, all_read}
use Rattle.gabc_patterns.proofs.SnippetsByState.{stuck, emitted_by}
use Rattle.gabc_patterns.proofs.StatesAfterTexts.{stands_first, stands_next}
use Rattle.gabc_nabc.proofs.kept.is_nabc.Goals as goal

pub loop-c-init : goal.loop-c-init
loop-c-init c = grind (arith, chars_rest, stands_first, snippets_read)

pub loop-c-preserved : goal.loop-c-preserved
loop-c-preserved c =
    let i = c.loop-c.invariant in
    let step = c.in-Some.ensures.steps.0 in
    let n : next_state c.loop-c.state (class_of_character c.in-Some.c) ≡ Some c.in-Some-next_state.after = cc (c.class_of.ensures, c.next_state.ensures, c.in-Some-next_state.is) in
    record {
      stands = stands_next nabc machine snippets_read c.loop-c.state c.in-Some-next_state.after c.loop-c.yielded c.in-Some.c i.stands n;
      whole = one_read _ _ _ _ _ i.utf8 step i.whole;
      utf8 = IsUtf8-past_char _ _ _ i.utf8 step;
    }

pub returns-in-None-next_state : goal.returns-in-None-next_state
returns-in-None-next_state c =
    let i = c.loop-c.invariant in
    let n : next_state c.loop-c.state (class_of_character c.in-Some.c) ≡ None = cc (c.class_of.ensures, c.next_state.ensures, c.in-None-next_state.is) in
    let none = stuck nabc machine snippets_read c.loop-c.state c.loop-c.yielded _ _ c.in-Some.c i.stands n (one_next _ _ _ _ _ i.utf8 c.in-Some.ensures.steps.0 i.whole) in
    (λ e. absurd (let f : false ≡ true = e in cc), λ h. absurd (none h))

pub returns : goal.returns
returns c =
    let i = c.loop-c.invariant in
    rw c.is_whole.ensures (emitted_by nabc machine snippets_read c.loop-c.state c.loop-c.yielded _ i.stands (all_read _ _ _ c.in-None.ensures.steps.0.0 i.whole))
