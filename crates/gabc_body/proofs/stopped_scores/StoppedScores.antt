-- A stopped score has the syllables of the units whose `)` stands before its stop.
use Rattle.std.proofs.Common.{inl, inr, refl, Bool, false, ◌≡◌, ℕ, zero, suc, ◌+◌, ◌-◌, ◌<◌, ◌≤◌, ◌^◌, Option, option_map, Some, None, Result, Ok, Err, List, [], ◌∷◌, ◌++◌, length, map, take, drop, sym, ap, subst, ◌∙◌, arith, length-append, take-append-drop}
use Rattle.std.proofs.lemmas.List.{take-append-le}
use Rattle.gabc_places.proofs.PushesAreOne.{joined-append}
use Rattle.gabc_places.specs.StageLaw.{concat_of}
use Rattle.gabc_places.specs.Place.{place_after}
use Rattle.gabc_places.specs.declared.code.Finding.{Finding}
use Rattle.gabc_places.specs.declared.code.Fault.{Fault}
use Rattle.gabc_places.specs.declared.limits.Limits.{Limits}
use Rattle.gabc_places.specs.declared.place.Place.{Place}
use Rattle.gabc_places.specs.declared.place.Char.{Char}
use Rattle.gabc_headers.specs.declared.heads.Heads.{Heads}
use Rattle.gabc_headers.specs.declared.heads.HeadFault.{HeadFault}
use Rattle.gabc_headers.specs.Book.{nabc_lines_of, macros_of}
use Rattle.gabc_headers.specs.Canonical.{canonical_heads}
use Rattle.gabc_headers.specs.Lines.{bytes_len}
use Rattle.gabc_headers.specs.Heads.{heads_of}
use Rattle.gabc_text.specs.BuiltText.{with_events, empty_text, text_built_at}
use Rattle.gabc_text.specs.Ends.{EndsOnce}
use Rattle.gabc_text.specs.Events.{codes_of, events_of, events_by_point}
use Rattle.gabc_text.specs.ViewFacts.{StandsForView, span_tags}
use Rattle.gabc_text.specs.View.{kept}
use Rattle.gabc_text.specs.TextRead.{view_in}
use Rattle.gabc_body.specs.declared.events.BodyEvent.{BodyEvent}
use Rattle.gabc_body.specs.declared.ending.InputEnding.{InputEnding}
use Rattle.gabc_body.specs.declared.ending.InputEnding.TheVariants.{Whole}
use Rattle.gabc_body.specs.Body.{events_onto, events_to_stop, result_by}
use Rattle.gabc_body.specs.Canonical.{with_positions}
use Rattle.gabc_body.specs.Events.{InComment, body_events, text_from, texts_by_definition}
use Rattle.gabc_body.specs.Stops.{events_in_points}
use Rattle.gabc_body.specs.Syllable.{UnplacedSyllable, all_syllables}
use Rattle.gabc_body.specs.Units.{BodyUnit, LastUnit, Units, BodyCutting, whole, last_pieces, units_pieces, last_characters, events_of_cutting, cutting_of, Cuts, IsCutFrom, IsCut, events_of_parts}
use Rattle.gabc_body.specs.SyllablesOfUnits.{characters_in, ScoreUnit, closed_units, count_within, units_within, AreSyllablesOf, body_characters, IsBodyCut, AreBeforeStop, AreBeforeBodyStop}
use Rattle.gabc_body.proofs.score_events.PlainScores.{plain_by, plain_of}
use Rattle.gabc_body.proofs.texts_of_body.SeamsOfCharacters.{size}
use Rattle.gabc_body.proofs.emitted.EventsOfSyllableParts.{onto_append}
use Rattle.gabc_body.proofs.gathering.EventsOfOnePoint.{made_before, made_after}
use Rattle.gabc_body.proofs.emitted.StopIsFirst.{stop_is_first}
use Rattle.gabc_body.proofs.emitted.OneListEachCharacter.{events_each}
use Rattle.gabc_body.proofs.units.BodyHasOneCutting.{body_emits_all}
use Rattle.gabc_body.proofs.holding.ScoreHoldsParts.{after_short}
use Rattle.gabc_body.proofs.holding.SyllablesHoldParts.{nothing_of, fits_back}
use Rattle.gabc_body.proofs.syllables_of_units.UnitsGiveSyllables.{eu_after, nlba_after, AreMade, units_give, all_events}
use Rattle.gabc_body.proofs.stopped_scores.ClosedWithin.{close_count, made_count, pieces_count, units_within_are}
use Rattle.gabc_body.proofs.syllables_of_units.SyllablesAreThoseOfUnits.{placed_are}
use Rattle.gabc_body.proofs.units.UnitsEndAtMarks.{first_is}

-- ---- what a stopped reading says

module _ (limits : Limits) (head : ℕ) (found : List Finding) (at : Place) where
  pub stopped_read : (ending : InputEnding) (before last : List BodyEvent) (fault : Option Fault) → ¬ ((ending ≡ Whole) × ((result_by limits head found at ending before last fault).fault ≡ None))
      → (result_by limits head found at ending before last fault).syllables ≡ with_positions (all_syllables before)
  stopped_read ending before last fault h = grind arith

-- ---- the first of the syllables

module _ (lines : ℕ) where
  first_made : (k : ℕ) (eu nlba : Bool) (us : List ScoreUnit) (ms : List UnplacedSyllable) → AreMade lines eu nlba us ms → AreMade lines eu nlba (take k us) (take k ms)
  first_made zero eu nlba us ms h = tt
  first_made (suc k) eu nlba [] [] h = tt
  first_made (suc k) eu nlba (u ∷ us) (m ∷ ms) h = (h.0, first_made k (eu_after eu (span_tags u.text)) (nlba_after nlba (span_tags u.text)) us ms h.1)
  first_made (suc k) eu nlba _ _ h = absurd h

  pub as_many : (eu nlba : Bool) (us : List ScoreUnit) (ms : List UnplacedSyllable) → AreMade lines eu nlba us ms → length ms ≡ length us
  as_many eu nlba [] [] h = refl
  as_many eu nlba (u ∷ us) (m ∷ ms) h = ap (λ n. suc n) (as_many (eu_after eu (span_tags u.text)) (nlba_after nlba (span_tags u.text)) us ms h.1)
  as_many eu nlba _ _ h = absurd h

pub closed_count : (units : List BodyUnit) (last : LastUnit) → length (closed_units units last) ≡ length units
closed_count [] last = refl
closed_count (u ∷ units) last = ap (λ n. suc n) (closed_count units last)

pub within_few : (n : ℕ) (units : List BodyUnit) → count_within n units ≤ length units
within_few n [] = omega arith
within_few n (u ∷ units) = grind (arith, within_few (n - length (characters_in u)) units)

pub take_comment : (n : ℕ) (comment : List Char) (lists : List (List BodyEvent)) → concat_of (take n (map nothing_of comment ++ lists)) ≡ concat_of (take (n - length comment) lists)
take_comment n [] lists = ap (λ m. concat_of (take m lists)) (let e : n ≡ n - 0 = omega arith in e)
take_comment zero (x ∷ comment) lists = ap (λ m. concat_of (take m lists)) (let e : 0 ≡ 0 - suc (length comment) = omega arith in e)
take_comment (suc n) (x ∷ comment) lists = take_comment n comment lists ∙ ap (λ m. concat_of (take m lists)) (let e : n - length comment ≡ suc n - suc (length comment) = omega arith in e)

-- ---- a body

module _ (ends : (at : Place) (t : List ℕ) → EndsOnce at t) (emits : (at : Place) (t : List ℕ) → with_events empty_text (concat_of (events_by_point at t)) ≡ text_built_at at t)
    (spans : (t : List ℕ) → StandsForView (kept t) (view_in t) t) (in_order : (at : Place) (t : List ℕ) → concat_of (events_by_point at t) ≡ events_of at t) (lines macros : ℕ) where
  abbrev pub PointGives : List ScoreUnit → List BodyEvent → Type 0
  PointGives us before = (made : List UnplacedSyllable) × ((all_syllables before ≡ made) × AreMade lines false false us made)

  -- n syllables of all are made, where n `)` are events
  first_are : (us : List ScoreUnit) (now later all : List BodyEvent) (ms extra : List UnplacedSyllable) (k : ℕ) → events_onto later (events_onto now []) ≡ all → all_syllables all ≡ ms ++ extra → AreMade lines false false us ms
      → close_count now ≡ k → k ≤ length us → PointGives (take k us) (events_onto now [])
  first_are us now later all ms extra k e m h c few =
      let count : length (all_syllables (events_onto now [])) ≡ 0 + close_count now = made_count now [] in
      let size : length (all_syllables (events_onto now [])) ≡ k = omega arith in
      let within : k ≤ length ms = omega (arith, as_many lines false false us ms h) in (
        take k ms,
        (
          sym (made_before later (events_onto now []))
              ∙ ap (λ n. take n (all_syllables (events_onto later (events_onto now [])))) size
              ∙ ap (λ a. take k (all_syllables a)) e ∙ ap (take k) m ∙ take-append-le k ms extra within,
          first_made lines k false false us ms h,
        ),
      )

  split_at : (n : ℕ) (lists : List (List BodyEvent)) → events_onto (concat_of (drop n lists)) (events_onto (concat_of (take n lists)) []) ≡ events_onto (concat_of lists) []
  split_at n lists =
      sym (onto_append (concat_of (take n lists)) (concat_of (drop n lists)) [])
      ∙ ap (λ ts. events_onto ts []) (sym (joined-append (take n lists) (drop n lists)) ∙ ap concat_of (take-append-drop n lists))

  units_at : (u : Units) (at : Place) (n : ℕ) → (let pieces = units_pieces lines u.closed u.last in let end = last_characters u.last in let xs = whole pieces end in let part = text_from texts_by_definition at xs in
      let lists = events_of_cutting texts_by_definition lines macros part pieces end in
      size (codes_of xs) < 2 ^ 63 → Cuts texts_by_definition lines macros part pieces end → n ≤ length xs → PointGives (take (count_within n u.closed) (closed_units u.closed u.last)) (events_onto (concat_of (take n lists)) []))
  units_at u at n fits h few =
      let pieces = units_pieces lines u.closed u.last in
      let end = last_characters u.last in
      let part = text_from texts_by_definition at (whole pieces end) in
      let lists = events_of_cutting texts_by_definition lines macros part pieces end in
      let g = units_give ends emits spans in_order lines macros u.closed u.last at [] refl fits h in
      let more = made_after (concat_of (events_of_cutting texts_by_definition lines macros (text_from texts_by_definition g.at (whole (last_pieces lines u.last) end)) (last_pieces lines u.last) end)) g.mid in
      let us = closed_units u.closed u.last in
      let count : close_count (concat_of (take n lists)) ≡ count_within n u.closed = pieces_count lines macros part pieces end tt fits h n few ∙ units_within_are lines u.closed u.last n in
      first_are us (concat_of (take n lists)) (concat_of (drop n lists)) (all_events lines macros part pieces end []) g.step.made more.0 (count_within n u.closed)
      (split_at n lists) (ap all_syllables g.events_are ∙ more.1 ∙ ap (λ (ms : List UnplacedSyllable). ms ++ more.0) g.step.made_is) g.step.are count
      (subst (λ m. count_within n u.closed ≤ m) (sym (closed_count u.closed u.last)) (within_few n u.closed))

  pub point_emits : (xs : List Char) (cut : BodyCutting) (n : ℕ) → IsCut texts_by_definition lines macros xs cut → size (codes_of xs) < 2 ^ 63 → n ≤ length xs
      → PointGives (units_within (n - length cut.comment) cut.units) (events_in_points [] (body_events lines macros xs) n)
  point_emits xs cut n h fits few =
      let o = option_map (cutting_of lines) cut.units in
      let lists = events_of_parts texts_by_definition lines macros o in
      let here : concat_of (take n (body_events lines macros xs)) ≡ concat_of (take (n - length cut.comment) lists) =
      ap (λ ls. concat_of (take n ls)) (body_emits_all texts_by_definition lines macros xs cut h) ∙ take_comment n cut.comment lists in
      subst (λ ts. PointGives (units_within (n - length cut.comment) cut.units) (events_onto ts [])) (sym here) (by cut.units h)
    where
      none_at : (m : ℕ) → PointGives [] (events_onto (concat_of (take m (events_of_parts texts_by_definition lines macros None))) [])
      none_at zero = ([], (refl, tt))
      none_at (suc zero) = ([], (refl, tt))
      none_at (suc (suc m)) = ([], (refl, tt))

      by : (o : Option Units) → IsCutFrom texts_by_definition lines macros xs cut.comment (option_map (cutting_of lines) o)
          → PointGives (units_within (n - length cut.comment) o) (events_onto (concat_of (take (n - length cut.comment) (events_of_parts texts_by_definition lines macros (option_map (cutting_of lines) o)))) [])
      by None k = none_at (n - length cut.comment)
      by (Some u) k =
          let pieces = units_pieces lines u.closed u.last in
          let end = last_characters u.last in
          let ys = whole pieces end in
          let m = n - length cut.comment in
          let f = first_is ys k.1.1.0 in
          let short = fits_back cut.comment ys (subst (λ zs. size (codes_of zs) < 2 ^ 63) k.0 fits) in
          let cuts = subst (λ part. Cuts texts_by_definition lines macros part pieces end) f.1 k.1.1.1 in
          let all : length xs ≡ length cut.comment + length ys = ap length k.0 ∙ length-append cut.comment ys in
          let within : n - length cut.comment ≤ length ys = omega arith in
          subst (λ part. PointGives (units_within m (Some u)) (events_onto (concat_of (take m (events_of_cutting texts_by_definition lines macros part pieces end))) [])) (sym f.1) (units_at u f.0 m short cuts within)

-- ---- a score

pub stop_reached : (limits : Limits) (head : ℕ) (xs : List Char) (lists : List (List BodyEvent)) (n : ℕ) → AreBeforeStop limits head xs lists n
    → (n ≤ length xs) × ((events_to_stop limits head [] xs lists).before ≡ events_in_points [] lists n)
stop_reached limits head xs lists n h = grind (arith, length-append)

module _ (ends : (at : Place) (t : List ℕ) → EndsOnce at t) (emits : (at : Place) (t : List ℕ) → with_events empty_text (concat_of (events_by_point at t)) ≡ text_built_at at t)
    (spans : (t : List ℕ) → StandsForView (kept t) (view_in t) t) (in_order : (at : Place) (t : List ℕ) → concat_of (events_by_point at t) ≡ events_of at t)
    (limits : Limits) (ending : InputEnding) (t : List ℕ) (book : List (List ℕ × List ℕ)) (cut : BodyCutting) (n : ℕ) (short : size t < 2 ^ 63) where
  stopped_by_heads : (r : Result Heads HeadFault) → (plain_by limits ending t r).book ≡ Some book → IsBodyCut book t cut → AreBeforeBodyStop limits book t n
      → ¬ ((ending ≡ Whole) × ((plain_by limits ending t r).fault ≡ None)) → AreSyllablesOf (nabc_lines_of book) (units_within (n - length cut.comment) cut.units) (plain_by limits ending t r).syllables
  stopped_by_heads (Err stop) b h s k = absurd (cc)
  stopped_by_heads (Ok heads) b h s k =
      let same : heads.book ≡ book = cc in
      let lines = nabc_lines_of heads.book in
      let macros = macros_of heads.book in
      let xs = body_characters t in
      let lists = body_events lines macros xs in
      let head = bytes_len (canonical_heads heads.book) in
      let r = events_to_stop limits head [] xs lists in
      let p = stop_reached limits head xs lists n (subst (λ c. AreBeforeBodyStop limits c t n) (sym same) s) in
      let us = units_within (n - length cut.comment) cut.units in
      let g = point_emits ends emits spans in_order lines macros xs cut n (subst (λ c. IsBodyCut c t cut) (sym same) h) (after_short ends emits spans limits ending t short) p.0 in
      subst (λ c. AreSyllablesOf (nabc_lines_of c) us (plain_by limits ending t (Ok heads)).syllables) same
      (subst (AreSyllablesOf lines us) (sym (stopped_read limits head heads.findings (place_after t) ending r.before r.last r.fault k ∙ ap (λ a. with_positions (all_syllables a)) p.1 ∙ ap with_positions g.1.0))
      (placed_are lines us g.0 g.1.1))

  pub stopped_syllables : (plain_of limits ending t).book ≡ Some book → IsBodyCut book t cut → AreBeforeBodyStop limits book t n
      → ¬ ((ending ≡ Whole) × ((plain_of limits ending t).fault ≡ None)) → AreSyllablesOf (nabc_lines_of book) (units_within (n - length cut.comment) cut.units) (plain_of limits ending t).syllables
  stopped_syllables = stopped_by_heads (heads_of limits t)

-- each body has a stop, or all of it stands before its end
pub stop_stands : (limits : Limits) (book : List (List ℕ × List ℕ)) (t : List ℕ) → (n : ℕ) × AreBeforeBodyStop limits book t n
stop_stands limits book t =
    let xs = body_characters t in
    let lines = nabc_lines_of book in
    let macros = macros_of book in
    elim (stop_is_first limits (bytes_len (canonical_heads book)) [] xs (body_events lines macros xs) (events_each texts_by_definition lines macros InComment xs)) [
      | inl s ↦ (length xs, inl (s, refl))
      | inr s ↦ (length s.prefix, inr (s, refl))
    ]
