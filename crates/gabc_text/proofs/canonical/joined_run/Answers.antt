use Rattle.std.proofs.Common.{refl, sym, ap, ◌∙◌, arith, Option}
use Rattle.gabc_places.specs.declared.place.Span.{Span}
use Rattle.gabc_text.specs.Canonical.{braces}
use Rattle.gabc_text.proofs.printing.RunsOfKeptBytes.{next_goes_on}
use Rattle.gabc_text.proofs.printing.TextIsOneSpan.{next_of_all}
use Rattle.std.proofs.lemmas.Bool.{true≢false}
use Rattle.gabc_text.proofs.canonical.joined_run.Goals as goal

pub loop-index-preserved : goal.loop-index-preserved
loop-index-preserved c =
    let joined = c.if-not-joins.ensures in
    let step = next_goes_on c.args.centre c.args.kept.now c.loop-index.index c.args.pieces.now _ c.loop-index.span _ c.args.old c.args.old
    (omega arith) c.loop-index.invariant.ordered (joined.meets refl) (joined.ordered refl) (joined.within refl) refl (joined.styles refl) refl
    (sym c.braces.ensures ∙ joined.no_braces refl) (joined.text refl) in
    record {
      text = step ∙ c.loop-index.invariant.text;
      ordered = omega (arith, joined.meets refl, joined.ordered refl);
      all = λ none start. (next_of_all c.args.kept.now c.args.old c.loop-index.span.to c.loop-index.index c.args.pieces.now _ (omega arith) (c.loop-index.invariant.all none start)).1;
    }

pub returns-then-not-joins-clause-all : goal.returns-then-not-joins-clause-all
returns-then-not-joins-clause-all c = λ none start.
    let next = next_of_all c.args.kept.now c.args.old c.loop-index.span.to c.loop-index.index c.args.pieces.now _ (omega arith) (c.loop-index.invariant.all none start) in
    absurd (true≢false (sym (c.joins.ensures.all (c.braces.ensures ∙ ap (λ (m : Option Span). braces m c.loop-index.index) none) next.0) ∙ c.if-not-joins.true))
