use Rattle.std.proofs.Common.{rules, sym, ap, ◌∙◌, map-id, Bool, ◌||◌, arith}
use Rattle.std.specs.Str.{chars}
use Rattle.std.proofs.lemmas.Iterator.{YieldsList-from_chars}
use Rattle.std.proofs.lemmas.Iterator.Consumers.{YieldsList-end}
use Rattle.gabc_headers.proofs.canonical_form.WantsLinesLeftToRight.{wants_start, after_lf, after_blank, after_semicolon, after_percent, after_other, at_end, wants_from}
use Rattle.gabc_headers.proofs.canonical.wants_own_lines.Goals as goal

pub loop-c-init : goal.loop-c-init
loop-c-init c = λ rest. wants_start rest

pub loop-c-preserved-in-10 : goal.loop-c-preserved-in-10
loop-c-preserved-in-10 c = λ rest. after_lf c.loop-c.yielded rest c.in-Some.c c.loop-c.wants c.loop-c.at_mark c.in-10.is c.loop-c.invariant

pub loop-c-preserved-in-59 : goal.loop-c-preserved-in-59
loop-c-preserved-in-59 c = λ rest. after_semicolon c.loop-c.yielded rest c.in-Some.c c.loop-c.wants c.loop-c.at_mark c.in-59.is c.loop-c.invariant

pub loop-c-preserved-else-wants : goal.loop-c-preserved-else-wants
loop-c-preserved-else-wants c = grind (arith, after_percent)

pub returns-then-wants-2 : goal.returns-then-wants-2
returns-then-wants-2 c =
    let end = YieldsList-end (YieldsList-from_chars c.args.value.now c.utf8.value cc) c.loop-c.yielded _ c.loop-c.yielded_by _ _ c.in-None.is c.next.ensures.steps in
    let e = at_end (chars c.args.value.now) c.loop-c.yielded c.loop-c.wants c.loop-c.at_mark (sym end.0 ∙ map-id c.loop-c.yielded) c.loop-c.invariant in
    c.if-wants-2.true ∙ sym (e ∙ ap (λ (b : Bool). b || c.loop-c.at_mark) c.if-wants-2.true)

pub returns-else-wants-2 : goal.returns-else-wants-2
returns-else-wants-2 c =
    let end = YieldsList-end (YieldsList-from_chars c.args.value.now c.utf8.value cc) c.loop-c.yielded _ c.loop-c.yielded_by _ _ c.in-None.is c.next.ensures.steps in
    let e = at_end (chars c.args.value.now) c.loop-c.yielded c.loop-c.wants c.loop-c.at_mark (sym end.0 ∙ map-id c.loop-c.yielded) c.loop-c.invariant in
    sym (e ∙ ap (λ (b : Bool). b || c.loop-c.at_mark) c.if-wants-2.false)

pub loop-c-preserved-in-32 : goal.loop-c-preserved-in-32
loop-c-preserved-in-32 c = λ rest. after_blank c.loop-c.yielded rest c.in-Some.c c.loop-c.wants c.loop-c.at_mark c.in-32.is c.loop-c.invariant

pub loop-c-preserved-then-wants : goal.loop-c-preserved-then-wants
loop-c-preserved-then-wants c = λ rest.
    let e = after_percent c.loop-c.yielded rest c.in-Some.c c.loop-c.wants c.loop-c.at_mark c.in-37.is c.loop-c.invariant in
    e ∙ ap (λ (b : Bool). (b || c.loop-c.at_mark) || wants_from c.loop-c.at_mark rest) c.if-wants.true ∙ sym (ap (λ (b : Bool). b || wants_from c.loop-c.at_mark rest) c.if-wants.true)

pub loop-c-preserved : goal.loop-c-preserved
loop-c-preserved c = λ rest. after_other c.loop-c.yielded rest c.in-Some.c c.loop-c.wants c.loop-c.at_mark (search rules) (search rules) (search rules) (search rules) (search rules) c.loop-c.invariant
