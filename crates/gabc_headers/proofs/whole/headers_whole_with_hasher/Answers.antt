use Rattle.std.proofs.Common.{◌≡◌, sym, ap, List, ℕ, arith}
use Rattle.gabc_headers.specs.machine.Collected.{Collected}
use Rattle.std.proofs.Common.{Result, Err, IfOk, subst}
use Rattle.gabc_places.specs.declared.limits.Limits.{Limits}
use Rattle.gabc_places.specs.Findings.{AreInOrder}
use Rattle.gabc_headers.specs.Heads.{heads_of, findings_of}
use Rattle.gabc_headers.specs.declared.heads.Heads.{Heads}
use Rattle.gabc_headers.specs.declared.heads.HeadFault.{HeadFault}
use Rattle.gabc_headers.proofs.collecting.HeadsFollowFromEvents.{scalars_of, read_good, read_within, case_limit, case_score, case_text}
use Rattle.gabc_headers.proofs.collecting.HeadsWithinLimits.{at_text_end}
use Rattle.gabc_headers.specs.HeadsOfGroups.{AreHeads}
use Rattle.gabc_headers.proofs.entries.HeadersAreSpelled.{spelled_by_names, within_by_names}
use Rattle.gabc_headers.proofs.groups.HeadsAreOfGroups.{of_groups, one_reading}
use Rattle.gabc_headers.proofs.order.FindingsAreInOrder.{heads_order}
use Rattle.gabc_headers.proofs.whole.headers_whole_with_hasher.Goals as goal

pub collect-requires : goal.collect-requires
collect-requires c = grind (arith, scalars_of, read_good)

pub at_score-requires : goal.at_score-requires
at_score-requires c = grind (arith, scalars_of, read_within, within_by_names)

pub returns-in-Limit-clause-exact : goal.returns-in-Limit-clause-exact
returns-in-Limit-clause-exact c =
    let u = scalars_of c.args.text.now c.as_str-written.result.now c.as_str-written.utf8 c.as_str-written.ensures.bytes in
    of_groups c.args.limits c.args.text.now _
    (rw (c.head_fault.ensures, ap (λ (x : Collected). x.findings) c.in_ok-collected.ensures.all, c.as_str-written.ensures.bytes, c.deref.ensures.value)
    (case_limit c.args.limits c.args.text.now c.in_ok-read.read.events.items c.in_ok-read.read.end u c.in_ok-read.ensures c.in-Limit.place c.in-Limit.is))

of_groups_ok : {E : Type 0} (limits : Limits) (t : List ℕ) (read : Result (Result Heads HeadFault) E) → IfOk read (λ r. r ≡ heads_of limits t) → IfOk read (AreHeads limits t)
of_groups_ok limits t read h = grind (arith, of_groups)

pub returns-in-Score-clause-exact : goal.returns-in-Score-clause-exact
returns-in-Score-clause-exact c =
    let u = scalars_of c.args.text.now c.as_str-written.result.now c.as_str-written.utf8 c.as_str-written.ensures.bytes in
    let e = case_score c.args.limits c.args.text.now c.in_ok-read.read.events.items c.in_ok-read.read.end u c.in_ok-read.ensures c.in-Score.place c.in-Score.body c.in-Score.open_line c.in-Score.is in
    of_groups_ok c.args.limits c.args.text.now c.at_score.result
    (rw (← e, ← c.as_str-written.ensures.bytes, ← c.deref.ensures.value, ← ap (λ (x : Collected). x.headers) c.in_ok-collected.ensures.all, spelled_by_names c.as_str-written.result.now c.in_ok-collected.collected.headers.0, ← ap (λ (x : Collected). x.findings) c.in_ok-collected.ensures.all) c.at_score.ensures)

pub returns-clause-exact : goal.returns-clause-exact
returns-clause-exact c =
    let u = scalars_of c.args.text.now c.as_str-written.result.now c.as_str-written.utf8 c.as_str-written.ensures.bytes in
    of_groups c.args.limits c.args.text.now _ (rw (
      c.head_fault-in-Text.ensures,
      c.end_fault-fault.ensures,
      ← at_text_end c.in-Text.place c.in-Text.open_line c.in_ok-collected.collected.findings,
      ap (λ (x : Collected). x.findings) c.in_ok-collected.ensures.all,
      c.as_str-written.ensures.bytes,
      c.deref.ensures.value,
    )
    (case_text c.args.limits c.args.text.now c.in_ok-read.read.events.items c.in_ok-read.read.end u c.in_ok-read.ensures c.in-Text.place c.in-Text.open_line c.in-Text.is))

in_order : (limits : Limits) (t : List ℕ) (read : Result Heads HeadFault) → AreHeads limits t read → AreInOrder (findings_of read)
in_order limits t read h = subst (λ (r : Result Heads HeadFault). AreInOrder (findings_of r)) (sym (one_reading limits t read h)) (heads_order limits t)

in_order_ok : {E : Type 0} (limits : Limits) (t : List ℕ) (read : Result (Result Heads HeadFault) E) → IfOk read (AreHeads limits t) → IfOk read (λ r. AreInOrder (findings_of r))
in_order_ok limits t read h = grind (arith, in_order)

pub returns-in-Limit-clause-order : goal.returns-in-Limit-clause-order
returns-in-Limit-clause-order c = in_order c.args.limits c.args.text.now (Err c.head_fault.result) (returns-in-Limit-clause-exact c)

pub returns-in-Score-clause-order : goal.returns-in-Score-clause-order
returns-in-Score-clause-order c = in_order_ok c.args.limits c.args.text.now c.at_score.result (returns-in-Score-clause-exact c)

pub returns-clause-order : goal.returns-clause-order
returns-clause-order c = in_order c.args.limits c.args.text.now (Err c.head_fault-in-Text.result) (returns-clause-exact c)
