use Rattle.std.proofs.Common.{◌≡◌, ◌++◌, filter, sym, ap, ◌∙◌, append_assoc, arith}
use Rattle.std.specs.Str.{chars}
use Rattle.gabc_places.specs.Text.{is_shown}
use Rattle.gabc_places.proofs.texts.CharactersOfStrings.{shown-cut, none-found}
use Rattle.gabc_places.proofs.text.Text.push_shown.Goals as goal

pub loop-shown-smaller : goal.loop-shown-smaller
loop-shown-smaller c = let e = c.in-Some.ensures.cases in omega (arith, e.7, e.2.1.ends)

pub loop-shown-preserved : goal.loop-shown-preserved
loop-shown-preserved c =
    let e = c.in-Some.ensures.cases in
    let cut = shown-cut c.loop-shown.rest.now c.in-Some.shown.now c.in-Some.after.now e.0 e.1 c.loop-shown.invariant.0 e.2.1 e.2.0 (omega (arith, e.5, e.7)) e.3 e.4 in
    (cut.0, rw c.in_ok-push_str.ensures (append_assoc c.loop-shown.self (chars c.in-Some.shown.now) (filter is_shown (chars c.in-Some.after.now)) ∙ ap (λ t. c.loop-shown.self ++ t) (sym cut.1) ∙ c.loop-shown.invariant.1))

pub returns : goal.returns
returns c =
    let shown : filter is_shown (chars c.loop-shown.rest.now) ≡ chars c.loop-shown.rest.now = none-found c.loop-shown.rest.now c.loop-shown.invariant.0 c.in_default.ensures.cases in
    grind (arith, shown)
