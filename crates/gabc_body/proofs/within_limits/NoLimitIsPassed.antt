-- No limit is passed in a body whose units keep no more, and whose syllables are within the limits.
use Rattle.std.proofs.Common.{◌≡◌, ℕ, suc, ◌≤◌, ◌<◌, ◌^◌, List, [], ◌∷◌, ◌++◌, length, take, drop, option_map, Some, None, Result, Ok, Err, inl, inr, refl, sym, ap, subst, ◌∙◌, arith, append_assoc, take-append-drop}
use Rattle.std.specs.List.{All}
use lib.Utf8.{encode}
use Rattle.gabc_places.proofs.PushesAreOne.{joined-append}
use Rattle.gabc_places.specs.StageLaw.{concat_of}
use Rattle.gabc_places.specs.Place.{place_after}
use Rattle.gabc_places.specs.declared.code.Finding.{Finding}
use Rattle.gabc_places.specs.declared.limits.Limits.{Limits}
use Rattle.gabc_places.specs.declared.place.Char.{Char}
use Rattle.gabc_places.specs.declared.place.Place.{Place}
use Rattle.gabc_headers.specs.declared.heads.Heads.{Heads}
use Rattle.gabc_headers.specs.declared.heads.HeadFault.{HeadFault}
use Rattle.gabc_headers.specs.Book.{nabc_lines_of, macros_of}
use Rattle.gabc_headers.specs.Canonical.{canonical_heads}
use Rattle.gabc_headers.specs.Lines.{bytes_len}
use Rattle.gabc_text.specs.BuiltText.{with_events, empty_text, text_built_at}
use Rattle.gabc_text.specs.Ends.{EndsOnce}
use Rattle.gabc_text.specs.Events.{codes_of, events_of, events_by_point}
use Rattle.gabc_text.specs.ViewFacts.{StandsForView}
use Rattle.gabc_text.specs.View.{kept}
use Rattle.gabc_text.specs.TextRead.{view_in}
use Rattle.gabc_body.specs.declared.events.BodyEvent.{BodyEvent}
use Rattle.gabc_body.specs.declared.ending.InputEnding.TheVariants.{Whole}
use Rattle.gabc_body.specs.Body.{events_onto, code_at, events_to_stop, cut_of, has_last, last_syllable, all_units, fault_at, fault_of_end, result_by_fault, result_by}
use Rattle.gabc_body.specs.Canonical.{with_positions}
use Rattle.gabc_body.specs.Events.{InComment, InText, texts_by_definition, text_from, body_events}
use Rattle.gabc_body.specs.Stops.{events_in_points}
use Rattle.gabc_body.specs.Syllable.{UnplacedSyllable, PlacedSyllable, all_syllables, since_close, kept_of}
use Rattle.gabc_body.specs.SyllablesOfUnits.{closed_units, score_units, AreSyllablesOf, body_characters, IsBodyCut}
use Rattle.gabc_body.specs.Units.{BodyUnit, JustText, Units, BodyCutting, whole, events_through, units_pieces, cutting_of, Endless, Cuts, IsCutFrom, IsCut, events_of_parts}
use Rattle.gabc_body.specs.WithinLimits.{CanonicalWithin, KeepsWithin}
use Rattle.gabc_body.specs.witness.TextEvents.{text_events}
use Rattle.gabc_body.proofs.score_events.PlainScores.{plain_by, plain_of}
use Rattle.gabc_body.proofs.texts_of_body.SeamsOfCharacters.{size, size_is_sum}
use Rattle.gabc_body.proofs.texts_of_body.TextEmitsThroughEnd.{endless_emits}
use Rattle.gabc_body.proofs.emitted.EventsOfSyllableParts.{onto_append}
use Rattle.gabc_body.proofs.gathering.EventsOfOnePoint.{pushed_more, made_after}
use Rattle.gabc_body.proofs.emitted.StopIsFirst.{stop_is_first}
use Rattle.gabc_body.proofs.emitted.OneListEachCharacter.{events_each}
use Rattle.gabc_body.proofs.order.FindingsOfScore.{reached_prefix}
use Rattle.gabc_body.proofs.units.UnitsEndAtMarks.{first_is}
use Rattle.gabc_body.proofs.holding.SyllablesHoldParts.{fits_back}
use Rattle.gabc_body.proofs.holding.ScoreHoldsParts.{after_short}
use Rattle.gabc_body.proofs.syllables_of_units.UnitsGiveSyllables.{all_events, units_give}
use Rattle.gabc_body.proofs.syllables_of_units.SyllablesAreThoseOfUnits.{body_all, body_emits, placed_are}
use Rattle.gabc_body.proofs.within_limits.KeptSoFar.{all_pushed, all_kept, StaysWithin, stays_on, stays_before, kept_within, made_within}
use Rattle.gabc_body.proofs.within_limits.CodesOfLimits.{AllKeptShort, PassNone, none_by, by_within, pass_none_before}
use Rattle.gabc_body.proofs.within_limits.UnitsKeepFew.{units_stay}

-- ---- the last text

-- an LF keeps a blank, and leaves nothing open
lf_keeps : (at : Place) → all_kept (text_events (concat_of (events_by_point at (10 ∷ [])))) ≡ 1
unfolding encode
lf_keeps at = refl

lf_uncut : (at : Place) (before : List BodyEvent) → cut_of (events_onto (text_events (concat_of (events_by_point at (10 ∷ [])))) before) ≡ cut_of before
lf_uncut at before = refl

module _ (ends : (at : Place) (t : List ℕ) → EndsOnce at t) (emits : (at : Place) (t : List ℕ) → with_events empty_text (concat_of (events_by_point at t)) ≡ text_built_at at t)
    (spans : (t : List ℕ) → StandsForView (kept t) (view_in t) t) (in_order : (at : Place) (t : List ℕ) → concat_of (events_by_point at t) ≡ events_of at t) (lines macros : ℕ) where
  last_events : (at : Place) (last : List Char) → codes_of last ≡ 10 ∷ [] → Endless lines (InText (texts_by_definition at last)) last
      → concat_of (events_through (InText (texts_by_definition at last)) last) ≡ text_events (concat_of (events_by_point at (10 ∷ [])))
  last_events at last e h = endless_emits ends emits lines at last h ∙ ap (λ t. text_events (concat_of (events_by_point at t))) e

  -- ---- a body

  record IsQuietRead (limit : ℕ) (all : List BodyEvent) : Type 0 where
    stays : StaysWithin limit all
    uncut : cut_of all ≡ None

  module _ (limit : ℕ) (some : 1 ≤ limit) (units : List BodyUnit) (last : List Char) (lf : codes_of last ≡ 10 ∷ []) (few : All (KeepsWithin limit) (closed_units units (JustText last))) where
    abbrev u : Units
    u = record { closed = units; last = JustText last }

    units_read : (at : Place) → (let pieces = units_pieces lines units (JustText last) in let part = text_from texts_by_definition at (whole pieces last) in
        size (codes_of (whole pieces last)) < 2 ^ 63 → Cuts texts_by_definition lines macros part pieces last → IsQuietRead limit (all_events lines macros part pieces last []))
    units_read at fits h =
        let pieces = units_pieces lines units (JustText last) in
        let part = text_from texts_by_definition at (whole pieces last) in
        let s = units_stay ends emits lines macros limit units (JustText last) at [] refl fits h tt few in
        let g = units_give ends emits spans in_order lines macros units (JustText last) at [] refl fits h in
        let none : all_kept (since_close s.mid) ≡ 0 = ap all_kept s.since in
        let lf_is : all_kept (text_events (concat_of (events_by_point s.at (10 ∷ [])))) ≡ 1 = lf_keeps s.at in
        let here : all_events lines macros part pieces last [] ≡ events_onto (text_events (concat_of (events_by_point s.at (10 ∷ [])))) s.mid =
        s.events_are ∙ ap (λ ts. events_onto ts s.mid) (last_events s.at last lf s.cuts) in
        let there : all_events lines macros part pieces last [] ≡ events_onto (text_events (concat_of (events_by_point g.at (10 ∷ [])))) g.mid =
        g.events_are ∙ ap (λ ts. events_onto ts g.mid) (last_events g.at last lf g.cuts) in
        record {
          stays = subst (StaysWithin limit) (sym here) (stays_on limit (text_events (concat_of (events_by_point s.at (10 ∷ [])))) s.mid s.stays (omega arith));
          uncut = ap cut_of there ∙ lf_uncut g.at g.mid ∙ g.step.uncut;
        }

    body_read : (xs : List Char) (cut : BodyCutting) → IsCut texts_by_definition lines macros xs cut → cut.units ≡ Some u → size (codes_of xs) < 2 ^ 63
        → IsQuietRead limit (events_onto (concat_of (body_events lines macros xs)) [])
    body_read xs cut h e fits =
        subst (IsQuietRead limit) (sym (body_all ends emits spans in_order lines macros xs cut h))
        (subst (λ o. IsQuietRead limit (events_onto (concat_of (events_of_parts texts_by_definition lines macros (option_map (cutting_of lines) o))) [])) (sym e)
        (by (subst (λ o. IsCutFrom texts_by_definition lines macros xs cut.comment (option_map (cutting_of lines) o)) e h)))
      where
        by : IsCutFrom texts_by_definition lines macros xs cut.comment (Some (cutting_of lines u)) → IsQuietRead limit (events_onto (concat_of (events_of_parts texts_by_definition lines macros (Some (cutting_of lines u)))) [])
        by k =
            let pieces = units_pieces lines units (JustText last) in
            let ys = whole pieces last in
            let f = first_is ys k.1.1.0 in
            let short = fits_back cut.comment ys (subst (λ zs. size (codes_of zs) < 2 ^ 63) k.0 fits) in
            let cuts = subst (λ part. Cuts texts_by_definition lines macros part pieces last) f.1 k.1.1.1 in
            subst (λ part. IsQuietRead limit (all_events lines macros part pieces last [])) (sym f.1) (units_read f.0 short cuts)

  -- ---- the limits

  units_kept : (limit : ℕ) (all : List BodyEvent) → StaysWithin limit all → AllKeptShort limit (all_units all)
  units_kept limit all h =
      all_pushed (λ (m : UnplacedSyllable). length m.kept ≤ limit) (has_last all) (all_syllables all) (last_syllable all) (made_within limit all h) (kept_within limit all h)

  units_more : (before : List BodyEvent) → (more : List UnplacedSyllable) × (all_units before ≡ all_syllables before ++ more)
  units_more before = pushed_more (has_last before) (all_syllables before) (last_syllable before)

  module _ (limits : Limits) (head : ℕ) (xs : List Char) (cut : BodyCutting) (h : IsCut texts_by_definition lines macros xs cut) (fits : size (codes_of xs) < 2 ^ 63)
      (within : (syllables : List PlacedSyllable) → AreSyllablesOf lines (score_units cut.units) syllables → CanonicalWithin limits head syllables)
      (q : IsQuietRead limits.syllable (events_onto (concat_of (body_events lines macros xs)) [])) where
    abbrev all : List BodyEvent
    all = events_onto (concat_of (body_events lines macros xs)) []

    pass_none : PassNone limits head (all_units all) (kept_of (since_close all))
    pass_none =
        let g = body_emits ends emits spans in_order lines macros xs cut h fits q.uncut in
        by_within limits head (all_units all) (kept_of (since_close all)) (kept_within limits.syllable all q.stays) (units_kept limits.syllable all q.stays)
        (within (with_positions (all_units all)) (subst (λ ms. AreSyllablesOf lines (score_units cut.units) (with_positions ms)) (sym g.1.0) (placed_are lines (score_units cut.units) g.0 g.1.1)))

    -- at no point a limit is passed
    none_at : (n : ℕ) → code_at limits head (events_in_points [] (body_events lines macros xs) n) ≡ None
    none_at n =
        let lists = body_events lines macros xs in
        let before = events_in_points [] lists n in
        let later = concat_of (drop n lists) in
        let rest : events_onto later before ≡ all =
        sym (onto_append (concat_of (take n lists)) later []) ∙ ap (λ ts. events_onto ts []) (sym (joined-append (take n lists) (drop n lists)) ∙ ap concat_of (take-append-drop n lists)) in
        let m = made_after later before in
        let v = units_more (events_onto later before) in
        let units_are : all_units all ≡ all_syllables before ++ (m.0 ++ v.0) =
        ap all_units (sym rest) ∙ v.1 ∙ ap (λ (ms : List UnplacedSyllable). ms ++ v.0) m.1 ∙ append_assoc (all_syllables before) m.0 v.0 in
        none_by limits head (all_syllables before) (kept_of (since_close before))
        (pass_none_before limits head (all_syllables before) (m.0 ++ v.0) (kept_of (since_close all)) (kept_of (since_close before))
        (kept_within limits.syllable before (stays_before limits.syllable later before (subst (StaysWithin limits.syllable) (sym rest) q.stays)))
        (subst (λ ms. PassNone limits head ms (kept_of (since_close all))) units_are pass_none))

    never_stops : (events_to_stop limits head [] xs (body_events lines macros xs)).fault ≡ None
    never_stops = elim (stop_is_first limits head [] xs (body_events lines macros xs) (events_each texts_by_definition lines macros InComment xs)) [
      | inl s ↦ s.fault
      | inr s ↦ absurd (cc (sym (none_at (suc (length s.prefix))) ∙ s.passed))
    ]

    no_fault : (found : List Finding) (at : Place) → (let r = events_to_stop limits head [] xs (body_events lines macros xs) in (result_by limits head found at Whole r.before r.last r.fault).fault ≡ None)
    no_fault found at =
        let r = events_to_stop limits head [] xs (body_events lines macros xs) in
        let all_is : events_onto r.last r.before ≡ all = (reached_prefix limits head [] xs (body_events lines macros xs)).last never_stops in
        let end : fault_of_end limits head at all (cut_of all) ≡ None =
        ap (fault_of_end limits head at all) q.uncut ∙ ap (λ o. option_map (fault_at at) o) (none_by limits head (all_units all) (kept_of (since_close all)) pass_none) in
        ap (λ f. (result_by limits head found at Whole r.before r.last f).fault) never_stops
        ∙ ap (λ a. (result_by_fault found at r.before a (fault_of_end limits head at a (cut_of a))).fault) all_is
        ∙ ap (λ o. (result_by_fault found at r.before all o).fault) end

-- ---- the score

module _ (ends : (at : Place) (t : List ℕ) → EndsOnce at t) (emits : (at : Place) (t : List ℕ) → with_events empty_text (concat_of (events_by_point at t)) ≡ text_built_at at t)
    (spans : (t : List ℕ) → StandsForView (kept t) (view_in t) t) (in_order : (at : Place) (t : List ℕ) → concat_of (events_by_point at t) ≡ events_of at t)
    (limits : Limits) (t : List ℕ) (book : List (List ℕ × List ℕ)) (cut : BodyCutting) (units : List BodyUnit) (last : List Char) (short : size t < 2 ^ 63) where
  by_heads : (r : Result Heads HeadFault) → (plain_by limits Whole t r).book ≡ Some book → IsBodyCut book t cut → cut.units ≡ Some (record { closed = units; last = JustText last }) → codes_of last ≡ 10 ∷ []
      → All (KeepsWithin limits.syllable) (closed_units units (JustText last))
      → ((syllables : List PlacedSyllable) → AreSyllablesOf (nabc_lines_of book) (score_units cut.units) syllables → CanonicalWithin limits (bytes_len (canonical_heads book)) syllables)
      → (plain_by limits Whole t r).fault ≡ None
  by_heads (Err stop) b h e lf few within = absurd (cc)
  by_heads (Ok heads) b h e lf few within =
      let same : book ≡ heads.book = cc in
      let lines = nabc_lines_of heads.book in
      let macros = macros_of heads.book in
      let xs = body_characters t in
      let k : IsCut texts_by_definition lines macros xs cut = subst (λ c. IsBodyCut c t cut) same h in
      let fits = after_short ends emits spans limits Whole t short in
      let w = subst (λ c. (syllables : List PlacedSyllable) → AreSyllablesOf (nabc_lines_of c) (score_units cut.units) syllables → CanonicalWithin limits (bytes_len (canonical_heads c)) syllables) same within in
      no_fault ends emits spans in_order lines macros limits (bytes_len (canonical_heads heads.book)) xs cut k fits w
      (body_read ends emits spans in_order lines macros limits.syllable (omega (arith, limits.in_range.syllable_least)) units last lf few xs cut k e fits) heads.findings (place_after t)

  pub no_limit_is_passed : (plain_of limits Whole t).book ≡ Some book → IsBodyCut book t cut → cut.units ≡ Some (record { closed = units; last = JustText last }) → codes_of last ≡ 10 ∷ []
      → All (KeepsWithin limits.syllable) (closed_units units (JustText last))
      → ((syllables : List PlacedSyllable) → AreSyllablesOf (nabc_lines_of book) (score_units cut.units) syllables → CanonicalWithin limits (size (canonical_heads book)) syllables)
      → (plain_of limits Whole t).fault ≡ None
  no_limit_is_passed b h e lf few within = grind (arith, by_heads, size_is_sum)
