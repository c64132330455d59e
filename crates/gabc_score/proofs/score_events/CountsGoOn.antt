-- The counts that a machine reports stay within the limits, past a point.
use Rattle.std.proofs.Common.{◌≡◌, ◌⊎◌, inl, inr, ℕ, None, ◌-◌, ◌≤◌, ◌<◌, ◌^◌, Bool, true, false, List, [], ◌∷◌, take, map, length, refl, sym, ap, subst, ◌∙◌, arith, length-append}
use Rattle.std.proofs.lemmas.Bool.Decides.{nat_tests}
use Rattle.std.proofs.lemmas.List.Elements.{All-nil}
use Rattle.gabc_places.specs.declared.limits.Limits.{Limits}
use Rattle.gabc_places.specs.declared.place.Place.{Place}
use Rattle.gabc_headers.specs.declared.head_event.HeadEvent.{HeadEvent}
use Rattle.gabc_headers.specs.declared.head_event.HeadEvent.TheVariants as head_event
use Rattle.gabc_score.specs.declared.preceding.Preceding.{Preceding}
use Rattle.gabc_score.specs.declared.body_stage.BodyPart.TheVariants as part
use Rattle.gabc_body.specs.declared.events.BodyEvent.{BodyEvent}
use Rattle.gabc_score.specs.declared.score_machine.ScorePart.TheVariants as score_part
use Rattle.gabc_score.specs.ScoreReports.{held_in_body}
use Rattle.gabc_score.specs.Before.{with_one, with_each, with_placed}
use Rattle.gabc_body.specs.Body.{is_none}
use Rattle.gabc_body.specs.Syllable.{UnplacedSyllable, PlacedSyllable}
use Rattle.gabc_body.specs.ScoreEvents.{first_place}
use Rattle.gabc_score.specs.ScoreStage.{MayCome}
use Rattle.gabc_score.specs.ReportedWithin.{AreCountsWithin, IsReportOfText}
use Rattle.gabc_score.specs.witness.BodyStage.{BodyStageState}
use Rattle.gabc_score.specs.witness.ScoreStage.{ScoreStageState}
use Rattle.gabc_body.proofs.units.CanonicalTextIsText.{nothing_plain}
use Rattle.gabc_body.specs.witness.Gatherer.{Gathered}
use Rattle.gabc_body.specs.witness.BodyBuilder.{with_all}
use Rattle.gabc_score.specs.machine.HeldWithin.{HoldsWithin}
use Rattle.gabc_score.specs.machine.PartPushes.{ClosesLast}
use Rattle.gabc_score.specs.machine.Preceded.{Contexts, IsPreceded, after_headers}
use Rattle.gabc_score.specs.machine.ScoreStage.{placed_after, with_held}
use Rattle.gabc_score.proofs.score_events.WhatPrecedes.{Closed, same_or_closed}
use Rattle.gabc_score.proofs.score_events.EventsStayWithinBounds.{last_stays}

pub more : (least : ℕ) (p : Preceding) (ms : List UnplacedSyllable) → least < 2 ^ 64 → least ≤ p.canonical → least ≤ (with_each p ms).canonical
more least p [] small h = h
more least p (m ∷ ms) small h = more least (with_one p m) ms small (grind (arith, nat_tests))

fits : (p : Preceding) (ms : List UnplacedSyllable) → p.canonical < 2 ^ 64 → (with_each p ms).canonical < 2 ^ 64
fits p [] h = h
fits p (m ∷ ms) h = fits (with_one p m) ms (grind (arith, nat_tests))

held_some : (g : Gathered) → is_none (with_held g).made ≡ true → g.made ≡ []
held_some g e = by g.made (sym (last_stays g.made) ∙ e)
  where
    by : (ms : List UnplacedSyllable) → is_none ms ≡ true → ms ≡ []
    by [] e = refl
    by (m ∷ ms) e = absurd (cc)

-- what stands before the held syllable is below the limit of the input, as what stands after it is
pub counts_past : (limits : Limits) (lines macros : ℕ) (before after : Preceding) (is_preceded : Bool) (h turned : Gathered) → after ≡ with_placed before (take (length h.made - 1) (placed_after is_preceded h.made)) → turned ≡ with_held h
    → IsPreceded after turned → HoldsWithin limits after turned → AreCountsWithin limits lines macros before.canonical → AreCountsWithin limits lines macros after.canonical
counts_past limits lines macros before after is_preceded h turned there turns preceded within c = record {
  few_lines = c.few_lines;
  ten_macros = c.ten_macros;
  headers = subst (λ (p : Preceding). 2 ≤ p.canonical) (sym there) (more 2 before given (omega arith) c.headers);
  below = by (is_none turned.made) refl;
}
  where
    given : List UnplacedSyllable
    given = map (λ (s : PlacedSyllable). s.made) (take (length h.made - 1) (placed_after is_preceded h.made))

    small : after.canonical < 2 ^ 64
    small = let under = c.below in let most = limits.in_range.input_most in rw there (fits before given (omega (arith, under, most)))

    by : (b : Bool) → is_none turned.made ≡ b → after.canonical < limits.input
    by false e =
        let file = within.file e in
        let total = preceded.total in
        let up = more after.canonical after turned.made small (omega arith) in
        omega (arith, file, total, up)
    by true e =
        let none : h.made ≡ [] = held_some h (sym (ap (λ (k : Gathered). is_none k.made) turns) ∙ e) in
        subst (λ (p : Preceding). p.canonical < limits.input) (sym (there ∙ ap (λ (ms : List UnplacedSyllable). with_placed before (take (length ms - 1) (placed_after is_preceded ms))) none)) c.below

-- if none is held then, none was before
pub none_past : (before after : Preceding) (is_preceded : Bool) (g h turned : Gathered) (now : List BodyEvent) → ClosesLast now → after ≡ with_placed before (take (length h.made - 1) (placed_after is_preceded h.made)) → turned ≡ with_held h
    → h ≡ with_all g now → (held_in_body score_part.Body g.made ≡ None → before.syllables ≡ 0) → held_in_body score_part.Body turned.made ≡ None → after.syllables ≡ 0
none_past before after is_preceded g h turned now last there turns is was none =
    let here : h.made ≡ [] = held_some h (sym (ap (λ (k : Gathered). is_none k.made) turns) ∙ none_in turned.made none) in
    ap (λ (p : Preceding). p.syllables) (there ∙ ap (λ (ms : List UnplacedSyllable). with_placed before (take (length ms - 1) (placed_after is_preceded ms))) here)
    ∙ was (ap (held_in_body score_part.Body) (old (same_or_closed g now last) (ap (λ (k : Gathered). k.made) (sym is) ∙ here)))
  where
    none_in : (ms : List UnplacedSyllable) → held_in_body score_part.Body ms ≡ None → is_none ms ≡ true
    none_in [] e = refl
    none_in (m ∷ ms) e = absurd (cc e)

    old : ((with_all g now).made ≡ g.made) ⊎ Closed g (with_all g now) → (with_all g now).made ≡ [] → g.made ≡ []
    old (inl same) e = sym same ∙ e
    old (inr c) e = absurd (let n = ap (λ (ms : List UnplacedSyllable). length ms) (sym c.made ∙ e) in omega (arith, n, length-append g.made (c.m ∷ [])))

-- after the headers the counts are those that they give
pub begins_of_text : (limits : Limits) (next : Place) (input : HeadEvent) (lines macros canonical : ℕ) (body : BodyStageState) (contexts : Contexts) → input ≡ head_event.Heads lines macros canonical
    → body ≡ record { nabc_lines = lines; macros = macros; part = part.Comment; ended = false; events = [] } → contexts ≡ after_headers canonical → MayCome limits next input
    → (s : ScoreStageState) → s.limits ≡ limits → s.body ≡ body → s.before ≡ contexts.before → s.held.next ≡ first_place → s.held.gathered.builder.kept ≡ [] → s.held.gathered.made ≡ [] → IsReportOfText s
begins_of_text limits next input lines macros canonical body contexts is at begun may s l b p n none empty = grind (arith, nothing_plain, All-nil)
