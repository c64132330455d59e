use Rattle.std.proofs.Common.{add-one, arith, sym, ◌∙◌}
use Rattle.std.proofs.lemmas.Str.{IsCharBoundary-start}
use Rattle.gabc_headers.proofs.entries.TextsGoOn.{ends_at, ends_on, far_on, far_end, within_end, later_end}
use Rattle.gabc_headers.proofs.entry_map.EntryMap.end.Goals as goal

pub loop-index-init : goal.loop-index-init
loop-index-init c = record { last = IsCharBoundary-start c.args.text.now c.utf8.text; ends = tt; far = omega arith }

pub loop-index-preserved : goal.loop-index-preserved
loop-index-preserved c =
    let at = ends_at c.args.text.now c.args.self.now.0 c.loop-index.index c.value.result c.requires c.value.ensures in
    let later = later_end c.args.text.now c.loop-index.end c.value.result.to c.loop-index.invariant.last at in
    record {
      last = rw c.max-end.ensures later.2;
      ends = rw add-one (ends_on c.args.self.now.0 c.loop-index.index c.loop-index.end c.max-end.result c.value.result c.value.ensures (rw c.max-end.ensures later.0) (rw c.max-end.ensures later.1) c.loop-index.invariant.ends);
      far = rw add-one (sym (far_on c.args.self.now.0 c.loop-index.index c.loop-index.end c.max-end.result c.value.result c.value.ensures c.max-end.ensures) ∙ c.loop-index.invariant.far);
    }

pub returns-clause-within : goal.returns-clause-within
returns-clause-within c = within_end c.args.text.now c.args.self.now.0 c.loop-index.index c.loop-index.end (omega arith) c.requires c.loop-index.invariant.ends

pub returns-clause-exact : goal.returns-clause-exact
returns-clause-exact c = sym (far_end c.args.self.now.0 c.loop-index.index c.loop-index.end (omega arith)) ∙ c.loop-index.invariant.far
