use Rattle.std.proofs.Common.{◌++◌, ◌+◌, ◌≤◌, length, arith, ap, sym, ◌∙◌}
use Rattle.gabc_places.specs.BoundedList.{BoundedList, extended_by}
use Rattle.gabc_places.specs.declared.place.Span.{Span}
use Rattle.gabc_notes.specs.declared.item.Item.{Item}
use Rattle.gabc_notes.specs.declared.item.ItemKind.TheVariants as kind
use Rattle.gabc_neumes.specs.machine.Runs.{is_part, run_between}
use Rattle.gabc_neumes.proofs.RoomsGrow.{extended-more}
use Rattle.gabc_neumes.proofs.runs_of_items.RunsOneByOne.{runs_on, runs_close, runs_end, passes_there}
use Rattle.gabc_neumes.proofs.runs.add_runs.Goals as goal
use Rattle.gabc_neumes.proofs.runs.add_runs.Goals.{then-not-has, else-not-has}

abbrev pub default : Item
default = record { kind = kind.Note; span = record { from = 0; to = 0 } }

pub loop-i-preserved : goal.loop-i-preserved
loop-i-preserved c =
    let h = c.loop-i.invariant in
    let p = is_part c.args.kind c.args.kept.now in
    let there = passes_there p c.args.items.now c.loop-i.i default c.loop-i-test.true in
    let next : c.loop-i.i + 1 ≤ length c.args.items.now = omega (arith, c.loop-i-test.true) in
    elim c.if-not-has.branch [
      | then-not-has w ↦ (
        h.0 ++ run_between c.loop-i.from c.loop-i.i,
        rw w.from-is (runs_close p c.args.items.now c.loop-i.i c.loop-i.from h.0 (there ∙ (sym c.has.ensures ∙ w.if-not-has.true)) h.1),
        w.out-is ∙ (w.add_run.ensures ∙ (ap (λ (x : BoundedList Span). extended_by x (run_between c.loop-i.from c.loop-i.i)) h.2 ∙ extended-more c.args.out.now h.0 (run_between c.loop-i.from c.loop-i.i))),
        next,
      )
      | else-not-has w ↦ (
        h.0,
        rw w.from-is (runs_on p c.args.items.now c.loop-i.i c.loop-i.from h.0 (there ∙ (sym c.has.ensures ∙ w.if-not-has.false)) h.1),
        w.out-is ∙ h.2,
        next,
      )
    ]

pub returns : goal.returns
returns c =
    let h = c.loop-i.invariant in
    let last = run_between c.loop-i.from (length c.args.items.now) in (
      h.0 ++ last,
      runs_end (is_part c.args.kind c.args.kept.now) c.args.items.now c.loop-i.i c.loop-i.from h.0 (omega (arith, h.3, c.loop-i-test.false)) h.1,
      c.add_run-2.ensures ∙ (ap (λ (x : BoundedList Span). extended_by x last) h.2 ∙ extended-more c.args.out.now h.0 last),
    )
