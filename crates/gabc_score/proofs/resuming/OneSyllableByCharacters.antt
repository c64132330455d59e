-- A text that is read by itself is one syllable exactly if reading it one character after the other
-- finds one.
use Rattle.gabc_score.proofs.score_events.EventsStayWithinBounds.{IsWithinLimits, is_within, none_passed}
use Rattle.std.proofs.Common.{◌≡◌, ℕ, zero, suc, ◌-◌, ◌<◌, ◌≤◌, ◌^◌, ◌||◌, ◌&&◌, not, min, nat_lt, Bool, true, false, List, [], ◌∷◌, ◌++◌, length, take, take_all, take-take, is_some, refl, sym, ap, subst, ◌∙◌, arith, append-nil}
use Rattle.std.specs.Prelude.{◌↔◌}
use Rattle.std.proofs.lemmas.Bool.{true≢false, and_parts, or_parts, not-true, or_from}
use Rattle.std.proofs.lemmas.Bool.Decides.{nat_tests}
use Rattle.std.proofs.lemmas.List.{append_cancel_left}
use Rattle.std.proofs.lemmas.List.Elements.{All-nil, All-cons, All-head, All-tail}
use Rattle.std.proofs.lemmas.List.Folds.{list_any-append}
use Rattle.std.specs.List.{All, list_any}
use Rattle.gabc_places.specs.Code.{severity_of}
use Rattle.gabc_places.specs.Place.{placed_characters_from}
use Rattle.gabc_places.specs.StageLaw.{concat_of}
use Rattle.gabc_places.specs.declared.code.Finding.{Finding}
use Rattle.gabc_places.specs.declared.limits.Limits.{Limits}
use Rattle.gabc_places.specs.declared.severity.Severity.{Severity}
use Rattle.gabc_places.specs.declared.severity.Severity.TheVariants.{Warning}
use Rattle.gabc_notes.specs.ReadAgain.{IsWarning}
use Rattle.gabc_body.specs.declared.before.Before.{Before}
use Rattle.gabc_body.specs.declared.events.BodyEvent.{BodyEvent}
use Rattle.gabc_body.specs.Body.{is_longer, is_none, events_onto, findings_of}
use Rattle.gabc_body.specs.Canonical.{canonical}
use Rattle.gabc_body.specs.Events.{texts_by_definition, text_from, events_from}
use Rattle.gabc_score.specs.Before.{preceding_of, most}
use Rattle.gabc_score.specs.ReportedWithin.{written_after}
use Rattle.gabc_body.specs.OneSyllable.{IsOneSyllable, emitted_first, emitted_after}
use Rattle.gabc_body.specs.ReadAlone.{IsReadAsSyllable}
use Rattle.gabc_body.specs.declared.before.Spans.{Spans}
use Rattle.gabc_score.specs.HeldAgain.{MayBeHeld}
use Rattle.gabc_body.specs.OpenSpans.{LeavesOpen}
use Rattle.gabc_body.specs.ScoreEvents.{findings_now, first_place}
use Rattle.gabc_body.specs.Syllable.{UnplacedSyllable, all_syllables, since_close, kept_of}
use Rattle.gabc_body.specs.witness.BodyBuilder.{with_all, code_in}
use Rattle.gabc_body.specs.witness.Gatherer.{Gathered}
use Rattle.gabc_score.specs.machine.ReadAlone.{is_grave, is_error, is_fine, is_alone}
use Rattle.gabc_body.specs.witness.SyllableBuilder.{nothing_open}
use Rattle.gabc_body.proofs.gathering.EventsOfOnePoint.{with_all_append}
use Rattle.gabc_body.proofs.gathering.EventsOfOnePoint.{found_on}
use Rattle.gabc_score.proofs.resuming.SyllablesOfEvents.{Counts, counts_from, made_after, size_of}
use Rattle.gabc_body.proofs.syllables_of_units.OpenSpans.{opened, leaves_open}
use Rattle.gabc_score.proofs.score_events.WhatPrecedes.{not_some}
use Rattle.gabc_body.proofs.emitted.EventsOfSyllableParts.{onto_append}
use Rattle.gabc_score.proofs.resuming.MachinesPassAgain.{none_is}

-- ---- through lists of events

pub record IsAlone (limits : Limits) (g : Gathered) (lists : List (List BodyEvent)) : Type 0 where
  pub earlier : (n : ℕ) → n < length lists → (with_all g (concat_of (take n lists))).made ≡ []
  pub some : is_none (with_all g (concat_of lists)).made ≡ false
  pub within : (n : ℕ) → n < length lists → IsWithinLimits limits (with_all g (concat_of (take (suc n) lists)))
  pub fine : list_any is_error (findings_now (concat_of lists)) ≡ false

none_of : (ms : List UnplacedSyllable) → is_none ms ≡ true → ms ≡ []
none_of ms e = grind arith

errors_are : (now more : List BodyEvent) → list_any is_error (findings_now (now ++ more)) ≡ (list_any is_error (findings_now now) || list_any is_error (findings_now more))
errors_are now more = grind (arith, onto_append, found_on, list_any-append)

pub alone_is : (limits : Limits) (lists : List (List BodyEvent)) (g : Gathered) → is_alone limits g lists ≡ true → IsAlone limits g lists
alone_is limits [] g e = record { earlier = λ n h. absurd (omega (arith, h)); some = not-true (is_none g.made) e; within = λ n h. absurd (omega (arith, h)); fine = refl }
alone_is limits (now ∷ lists) g e =
    let a = and_parts (is_none g.made) (is_fine limits g now && is_alone limits (with_all g now) lists) e in
    let b = and_parts (is_fine limits g now) (is_alone limits (with_all g now) lists) a.1 in
    let c = and_parts (not (is_some (code_in limits (with_all g now)))) (not (list_any is_error (findings_now now))) b.0 in
    let rest = alone_is limits lists (with_all g now) b.1 in
    record {
      earlier = earlier (none_of g.made a.0) rest;
      some = ap (λ (h : Gathered). is_none h.made) (with_all_append g now (concat_of lists)) ∙ rest.some;
      within = within (is_within limits (with_all g now) (none_is (code_in limits (with_all g now)) (not-true (is_some (code_in limits (with_all g now))) c.0))) rest;
      fine = errors_are now (concat_of lists) ∙ or_from (list_any is_error (findings_now now)) (list_any is_error (findings_now (concat_of lists))) (not-true (list_any is_error (findings_now now)) c.1) rest.fine;
    }
  where
    earlier : g.made ≡ [] → IsAlone limits (with_all g now) lists → (n : ℕ) → n < suc (length lists) → (with_all g (concat_of (take n (now ∷ lists)))).made ≡ []
    earlier none rest zero h = none
    earlier none rest (suc n) h = ap (λ (k : Gathered). k.made) (with_all_append g now (concat_of (take n lists))) ∙ rest.earlier n (omega (arith, h))

    within : IsWithinLimits limits (with_all g now) → IsAlone limits (with_all g now) lists → (n : ℕ) → n < suc (length lists) → IsWithinLimits limits (with_all g (concat_of (take (suc n) (now ∷ lists))))
    within first rest zero h = subst (IsWithinLimits limits) (sym (with_all_append g now [])) first
    within first rest (suc n) h = subst (IsWithinLimits limits) (sym (with_all_append g now (concat_of (take (suc n) lists)))) (rest.within n (omega (arith, h)))

pub alone_of : (limits : Limits) (lists : List (List BodyEvent)) (g : Gathered) → IsAlone limits g lists → is_alone limits g lists ≡ true
alone_of limits [] g a = ap not a.some
alone_of limits (now ∷ lists) g a =
    let errors = or_parts (list_any is_error (findings_now now)) (list_any is_error (findings_now (concat_of lists))) (sym (errors_are now (concat_of lists)) ∙ a.fine) in
    let first : IsWithinLimits limits (with_all g now) = subst (IsWithinLimits limits) (with_all_append g now []) (a.within zero (omega arith)) in
    let rest : IsAlone limits (with_all g now) lists = record {
      earlier = λ n h. ap (λ (k : Gathered). k.made) (sym (with_all_append g now (concat_of (take n lists)))) ∙ a.earlier (suc n) (omega (arith, h));
      some = ap (λ (h : Gathered). is_none h.made) (sym (with_all_append g now (concat_of lists))) ∙ a.some;
      within = λ n h. subst (IsWithinLimits limits) (with_all_append g now (concat_of (take (suc n) lists))) (a.within (suc n) (omega (arith, h)));
      fine = errors.1;
    } in
    rw (none_passed limits (with_all g now) first, errors.0, ap is_none (a.earlier zero (omega arith))) (alone_of limits lists (with_all g now) rest)

-- ---- warnings

grave_is : (s : Severity) → is_grave s ≡ false → s ≡ Warning
grave_is s e = grind arith

warn : (fs : List Finding) → list_any is_error fs ≡ false → All IsWarning fs
warn [] e = All-nil IsWarning
warn (f ∷ fs) e = let n = or_parts (is_error f) (list_any is_error fs) e in All-cons IsWarning f fs (grave_is (severity_of f.code) n.0) (warn fs n.1)

warnings_are : (fs : List Finding) → All IsWarning fs → list_any is_error fs ≡ false
warnings_are [] a = refl
warnings_are (f ∷ fs) a = or_from (is_error f) (list_any is_error fs) (ap is_grave (All-head IsWarning f fs a)) (warnings_are fs (All-tail IsWarning f fs a))

-- ---- the text

-- the text is one syllable by all that it emits exactly if it is one by what is kept of it
abbrev pub IsOneByKept : List ℕ → Type 0
IsOneByKept text = (lines macros : ℕ) (spans : Spans) (limit : ℕ) (m : UnplacedSyllable) → IsOneSyllable lines macros first_place text spans limit m ↔ IsReadAsSyllable lines macros text spans limit m

-- the text is one syllable
pub record Found (limits : Limits) (b : Before) (g : Gathered) (text : List ℕ) (lists : List (List BodyEvent)) : Type 0 where
  pub syllable : UnplacedSyllable
  pub made : (with_all g (concat_of lists)).made ≡ syllable ∷ []
  pub may : MayBeHeld limits b text syllable

module _ (limits : Limits) (b : Before) (g : Gathered) (limit : g.limit ≡ limits.syllable) (nothing : g.builder ≡ nothing_open) (eu : g.eu ≡ b.spans.eu) (nlba : g.nlba ≡ b.spans.nlba) (none : g.made ≡ [])
    (over : g.over ≡ false) (total : g.total ≡ b.canonical) (follows : g.follows ≡ nat_lt 0 b.syllables) (text : List ℕ) (lists : List (List BodyEvent))
    (are : (let xs = placed_characters_from first_place text in lists ≡ take (length text) (events_from texts_by_definition b.nabc_lines b.macros (text_from texts_by_definition first_place xs) xs)))
    (each : length lists ≡ length text) (by_kept : IsOneByKept text) where
  small : limits.syllable < 2 ^ 64 - 1
  small = let r = limits.in_range in omega (arith, r)

  emitted : (n : ℕ) → n ≤ length text → emitted_first b.nabc_lines b.macros first_place text n ≡ concat_of (take n lists)
  emitted n h = grind (arith, take-take)

  whole : emitted_first b.nabc_lines b.macros first_place text (length text) ≡ concat_of lists
  whole = emitted (length text) (omega arith) ∙ ap (concat_of {T = BodyEvent}) (take_all (length text) lists (omega (arith, each)))

  starts : (m : UnplacedSyllable) → size_of g.follows m ≡ min (length (written_after (preceding_of b) m)) most
  starts m = ap (λ f. min (length (canonical (not f || m.text.word_start) m)) most) follows ∙ ap (λ f. min (length (canonical (f || m.text.word_start) m)) most) (not_some b.syllables)

  module _ (before : List BodyEvent) (leaves : LeavesOpen b.spans before) where
    made_then : (n : ℕ) → n ≤ length text → all_syllables (emitted_after b.nabc_lines b.macros first_place text before n) ≡ all_syllables before ++ (with_all g (concat_of (take n lists))).made
    made_then n h =
        ap (λ (es : List BodyEvent). all_syllables (events_onto es before)) (emitted n h)
        ∙ (made_after g b.spans nothing eu nlba none before leaves limits.syllable small (concat_of (take n lists))).made

    made_whole : all_syllables (emitted_after b.nabc_lines b.macros first_place text before (length text)) ≡ all_syllables before ++ (with_all g (concat_of lists)).made
    made_whole =
        ap (λ (es : List BodyEvent). all_syllables (events_onto es before)) whole
        ∙ (made_after g b.spans nothing eu nlba none before leaves limits.syllable small (concat_of lists)).made

    kept_then : (n : ℕ) → n ≤ length text → kept_of (since_close (emitted_after b.nabc_lines b.macros first_place text before n)) ≡ (with_all g (concat_of (take n lists))).builder.kept
    kept_then n h =
        ap (λ (es : List BodyEvent). kept_of (since_close (events_onto es before))) (emitted n h)
        ∙ sym (ap (λ o. o.kept) (made_after g b.spans nothing eu nlba none before leaves limits.syllable small (concat_of (take n lists))).read.builder)

  counted : (n : ℕ) → Counts g (with_all g (concat_of (take n lists)))
  counted n = counts_from g none (concat_of (take n lists))

  errors : list_any is_error (findings_of (emitted_after b.nabc_lines b.macros first_place text [] (length text))) ≡ list_any is_error (findings_now (concat_of lists))
  errors = ap (λ (es : List BodyEvent). list_any is_error (findings_of (events_onto es []))) whole

  one_of : (ms : List UnplacedSyllable) → is_none ms ≡ false → length ms ≤ 1 → (m : UnplacedSyllable) × (ms ≡ m ∷ [])
  one_of [] e h = absurd (true≢false e)
  one_of (m ∷ []) e h = (m, refl)
  one_of (m ∷ n ∷ ms) e h = absurd (omega (arith, h))

  pub found : is_alone limits g lists ≡ true → length (with_all g (concat_of lists)).made ≤ 1 → Found limits b g text lists
  found e few =
      let a = alone_is limits lists g e in
      let one = one_of (with_all g (concat_of lists)).made a.some few in
      let m = one.0 in
      let before = opened b.spans in
      let leaves = leaves_open b.spans in
      let counts = counts_from g none (concat_of lists) in
      let last = at_last a in
      let here = counts.one m one.1 in
      let passed = or_parts (is_longer g.limit m.kept) (nat_lt g.limit (size_of g.follows m)) (or_parts g.over _ (sym here.0 ∙ last.over)).1 in
      let size = starts m in
      let file = last.file a.some in
      record {
        syllable = m;
        made = one.1;
        may = record {
          read = (by_kept b.nabc_lines b.macros b.spans limits.syllable m).0 (record {
            before = before;
            leaves = leaves;
            none_earlier = λ n h. made_then before leaves n (omega (arith, h)) ∙ ap (λ ms. all_syllables before ++ ms) (a.earlier n (omega (arith, h, each))) ∙ append-nil (all_syllables before);
            one = made_whole before leaves ∙ ap (λ ms. all_syllables before ++ ms) one.1;
            few = λ n h. rw (kept_then before leaves n h) (few_kept a n h);
            warnings = warn (findings_of (emitted_after b.nabc_lines b.macros first_place text [] (length text))) (errors ∙ a.fine);
          });
          kept = let k = passed.0 in grind (arith, nat_tests, k, limit);
          short = let k = passed.1 in grind (arith, nat_tests, k, limit, size, small);
          file = let t = here.1 in let input = limits.in_range in omega arith;
        };
      }
    where
      few_kept : IsAlone limits g lists → (n : ℕ) → n ≤ length text → length (with_all g (concat_of (take n lists))).builder.kept ≤ limits.syllable
      few_kept a zero h = let l = ap (λ o. length o.kept) nothing in omega (arith, l)
      few_kept a (suc n) h = let k = (a.within n (omega (arith, h, each))).kept in let l = (counted (suc n)).limit in omega (arith, k, l, limit)

      at_last : IsAlone limits g lists → IsWithinLimits limits (with_all g (concat_of lists))
      at_last a = by lists refl
        where
          by : (ls : List (List BodyEvent)) → lists ≡ ls → IsWithinLimits limits (with_all g (concat_of lists))
          by [] l = absurd (true≢false (sym (ap (λ (ls : List (List BodyEvent)). is_none (with_all g (concat_of ls)).made) l ∙ ap is_none none) ∙ a.some))
          by (now ∷ ls) l =
              let n = ap length l in
              subst (λ (k : List (List BodyEvent)). IsWithinLimits limits (with_all g (concat_of k))) (take_all (suc (length ls)) lists (omega (arith, n))) (a.within (length ls) (omega (arith, n)))

  pub alone : (m : UnplacedSyllable) → MayBeHeld limits b text m → is_alone limits g lists ≡ true
  alone m may =
      let r = emitted in
      let last : (with_all g (concat_of lists)).made ≡ m ∷ [] = append_cancel_left (all_syllables r.before) _ _ (sym (made_whole r.before r.leaves) ∙ r.one) in
      alone_of limits lists g (record {
        earlier = earlier;
        some = ap is_none last;
        within = λ n h. within n h (nat_lt (suc n) (length lists)) refl last;
        fine = sym errors ∙ warnings_are _ r.warnings;
      })
    where
      emitted : IsOneSyllable b.nabc_lines b.macros first_place text b.spans limits.syllable m
      emitted = (by_kept b.nabc_lines b.macros b.spans limits.syllable m).1 may.read

      earlier : (n : ℕ) → n < length lists → (with_all g (concat_of (take n lists))).made ≡ []
      earlier n h =
          append_cancel_left (all_syllables emitted.before) _ _
          (sym (made_then emitted.before emitted.leaves n (omega (arith, h, each))) ∙ emitted.none_earlier n (omega (arith, h, each)) ∙ sym (append-nil (all_syllables emitted.before)))

      kept : (n : ℕ) → n < length lists → length (with_all g (concat_of (take (suc n) lists))).builder.kept ≤ (with_all g (concat_of (take (suc n) lists))).limit
      kept n h =
          let k = emitted.few (suc n) (omega (arith, h, each)) in
          let e = ap length (kept_then emitted.before emitted.leaves (suc n) (omega (arith, h, each))) in
          let l = (counted (suc n)).limit in omega (arith, k, e, l, limit)

      within : (n : ℕ) → n < length lists → (more : Bool) → nat_lt (suc n) (length lists) ≡ more → (with_all g (concat_of lists)).made ≡ m ∷ [] → IsWithinLimits limits (with_all g (concat_of (take (suc n) lists)))
      within n h true t last =
          let ms = earlier (suc n) (grind (arith, nat_tests, t)) in
          let c = (counted (suc n)).none ms in
          record { kept = kept n h; over = c.0 ∙ over; file = λ some. absurd (true≢false (sym (ap is_none ms) ∙ some)) }
      within n h false t last =
          let all = take_all (suc n) lists (grind (arith, nat_tests, t)) in
          let c = (counted (suc n)).one m (ap (λ (ls : List (List BodyEvent)). (with_all g (concat_of ls)).made) all ∙ last) in
          let long : is_longer g.limit m.kept ≡ false = let k = may.kept in grind (arith, nat_tests, k, limit) in
          let size = starts m in
          let wide : nat_lt g.limit (size_of g.follows m) ≡ false = let k = may.short in grind (arith, nat_tests, k, limit, size) in
          let t = c.1 in
          let f = may.file in
          record { kept = kept n h; over = c.0 ∙ or_from g.over _ over (or_from (is_longer g.limit m.kept) _ long wide); file = λ some. omega (arith, t, f, total, size) }
