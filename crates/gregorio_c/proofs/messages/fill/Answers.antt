use Rattle.std.proofs.Common.{◌∙◌, ap, sym, length, arith}
use Rattle.std.proofs.lemmas.List.{drop_all}
use Rattle.gabc_places.specs.Filling.{filled}
use Rattle.gregorio_c.proofs.MessagesAreFilled.{goes_on_after, shown_is_first, hidden_is_none}
use Rattle.gregorio_c.proofs.messages.fill.Goals as goal
use Rattle.gregorio_c.proofs.messages.fill.Goals.{then-is_shown, else-is_shown}

pub loop-finding-preserved : goal.loop-finding-preserved
loop-finding-preserved c =
    let l = c.loop-finding in
    let slice = c.as_slice-finding-items in
    let test = c.loop-finding-test.true in
    elim c.if-is_shown.branch [
      | then-is_shown w ↦
          let first = shown_is_first c.args.all_warnings c.args.score.now.fault slice.result.now _ slice.ensures l.finding-index _ test w.at.result (sym c.is_shown.ensures ∙ w.if-is_shown.true) w.at.ensures in
          let on = goes_on_after l.buf c.if-is_shown.buf l.len c.if-is_shown.len w.at.result _ (w.buf-is ∙ w.put_at-len.ensures.buf) (w.len-is ∙ w.put_at-len.ensures.len) in
          record {
            buf = on ∙ ap (filled l.buf l.len) (sym first) ∙ l.invariant.buf;
            count = omega (arith, ap length first, l.invariant.count, l.invariant.few, w.count-is, w.saturating_add-count.ensures);
            few = omega (arith, w.count-is, w.saturating_add-count.ensures);
          }
      | else-is_shown w ↦
          let same = hidden_is_none c.args.all_warnings c.args.score.now.fault slice.result.now _ slice.ensures l.finding-index _ test (sym c.is_shown.ensures ∙ w.if-is_shown.false) in
          rw (w.buf-is, w.len-is, w.count-is, sym same) l.invariant
    ]

pub returns-in_default-clause-count : goal.returns-in_default-clause-count
returns-in_default-clause-count c = grind (arith, drop_all)
