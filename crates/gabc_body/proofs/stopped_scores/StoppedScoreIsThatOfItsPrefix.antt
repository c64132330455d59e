-- The syllables of a stopped score are those of its prefix, read as a whole.
use Rattle.std.proofs.Common.{◌≡◌, ℕ, zero, suc, ◌+◌, ◌-◌, ◌<◌, ◌≤◌, ◌^◌, Bool, false, Option, option_map, Some, None, inl, inr, List, [], ◌∷◌, ◌++◌, length, map, take, drop, refl, sym, ap, subst, ◌∙◌, arith, append_assoc, append-nil, length-append, take-append-drop}
use Rattle.std.specs.List.{flat_map}
use Rattle.std.proofs.lemmas.Bool.Decides.{nat_tests}
use Rattle.std.proofs.lemmas.List.{take-append-le, length-take-le, length-map}
use Rattle.std.proofs.Math.Seq.{take-append-add, take-length, drop-append_seam}
use Rattle.gabc_places.proofs.PushesAreOne.{joined-append}
use Rattle.gabc_places.specs.StageLaw.{concat_of}
use Rattle.gabc_places.specs.declared.code.Finding.{Finding}
use Rattle.gabc_places.specs.declared.limits.Limits.{Limits}
use Rattle.gabc_places.specs.declared.place.Place.{Place}
use Rattle.gabc_places.specs.declared.place.Char.{Char}
use Rattle.gabc_text.specs.declared.text_event.TextEnd.TheVariants as text_end
use Rattle.gabc_text.specs.declared.text_event.TextEvent.TheVariants as text_out
use Rattle.gabc_text.specs.declared.stage.TextStage.{TextStage}
use Rattle.gabc_text.specs.BuiltText.{with_events, empty_text, text_built_at}
use Rattle.gabc_text.specs.Ends.{EndsOnce}
use Rattle.gabc_text.specs.Events.{CountsFit, codes_of, events_of, events_by_point}
use Rattle.gabc_text.specs.witness.EventsLeft.{events_left}
use Rattle.gabc_text.specs.TextStage.{fresh_stage}
use Rattle.gabc_text.specs.ViewFacts.{StandsForView}
use Rattle.gabc_text.specs.View.{kept}
use Rattle.gabc_text.specs.TextRead.{view_in}
use Rattle.gabc_notes.specs.Events as notes
use Rattle.gabc_nabc.specs.Events as nabc
use Rattle.gabc_body.specs.declared.events.BodyEvent.{BodyEvent}
use Rattle.gabc_body.specs.declared.events.BodyEvent.TheVariants.{Text}
use Rattle.gabc_body.specs.declared.ending.InputEnding.TheVariants.{Whole}
use Rattle.gabc_body.specs.Body.{events_onto, code_at, events_to_stop, cut_of, fault_of_end, result_by_fault, result_by}
use Rattle.gabc_body.specs.Canonical.{with_positions}
use Rattle.gabc_body.specs.Events.{InComment, texts_by_definition, text_from, body_events}
use Rattle.gabc_body.specs.Stops.{events_in_points}
use Rattle.gabc_body.specs.Syllable.{all_syllables, since_close}
use Rattle.gabc_body.specs.Units.{BodyUnit, JustText, Units, BodyCutting, whole, units_pieces, last_characters, cutting_of, BeginsWithLf, first_text, Cuts, events_of_cutting, IsCutFrom, IsCut}
use Rattle.gabc_body.specs.SyllablesOfUnits.{characters_in, characters_from, closed_units, count_within, count_in, whole_count, through_unit}
use Rattle.gabc_body.proofs.texts_of_body.SeamsOfCharacters.{size}
use Rattle.gabc_body.proofs.emitted.EventsOfSyllableParts.{onto_append}
use Rattle.gabc_body.proofs.gathering.EventsOfOnePoint.{made_before}
use Rattle.gabc_body.proofs.emitted.StopIsFirst.{stop_is_first}
use Rattle.gabc_body.proofs.emitted.OneListEachCharacter.{events_each}
use Rattle.gabc_body.proofs.units.BodyHasOneCutting.{body_emits_all}
use Rattle.gabc_body.proofs.stopped_scores.NothingIsKeptAtTheEnd.{none_before}
use Rattle.gabc_body.proofs.holding.SyllablesHoldParts.{nothing_of, fits_back, fits_prefix}
use Rattle.gabc_body.proofs.syllables_of_units.UnitsGiveSyllables.{units_whole, units_give}
use Rattle.gabc_body.proofs.syllables_of_units.SyllablesAreThoseOfUnits.{body_all}
use Rattle.gabc_body.proofs.stopped_scores.StoppedScores.{as_many, closed_count, within_few}
use Rattle.gabc_body.proofs.stopped_scores.PrefixHasTheSameUnits.{AllSmall, SmallAt, units_prefix, first_whole, small_after}

abbrev finished : BodyEvent
finished = Text (text_out.Ended text_end.Finished)

-- ---- the end of a prefix

-- where the events so far end at a `)`, and nothing is left open
pub record IsSeam (before : List BodyEvent) : Type 0 where
  pub since : since_close before ≡ []
  pub uncut : cut_of before ≡ None

module _ (limits : Limits) (head : ℕ) (found : List Finding) (at : Place) where
  -- what a reading says that ends at a seam
  seam_read : (before : List BodyEvent) → IsSeam before → code_at limits head before ≡ None
      → (let b = result_by_fault found at before (finished ∷ before) (fault_of_end limits head at (finished ∷ before) (cut_of (finished ∷ before))) in (b.fault ≡ None) × (b.syllables ≡ with_positions (all_syllables before)))
  seam_read before s none = grind arith

-- ---- characters of the prefix

flat_is : (units : List BodyUnit) → flat_map characters_in units ≡ characters_from units (JustText [])
flat_is [] = refl
flat_is (u ∷ units) = ap (λ cs. characters_in u ++ cs) (flat_is units)

count_fits : (n : ℕ) (units : List BodyUnit) → length (characters_from (take (count_within n units) units) (JustText [])) ≤ n
count_fits n [] = omega arith
count_fits n (u ∷ units) =
    let rest = characters_from (take (count_within (n - length (characters_in u)) units) units) (JustText []) in
    grind (arith, nat_tests, count_fits (n - length (characters_in u)) units, length-append (characters_in u) rest)

some_characters : (j : ℕ) (units : List BodyUnit) → suc j ≤ length units → 0 < length (characters_from (take (suc j) units) (JustText []))
some_characters j units h = grind (arith, length-append)

-- a body and its prefix begin with the same text, at a small place
record BeginAlike (prefix after : List Char) : Type 0 where
  at : Place
  all : first_text texts_by_definition (prefix ++ after) ≡ text_from texts_by_definition at (prefix ++ after)
  some : first_text texts_by_definition prefix ≡ text_from texts_by_definition at prefix
  begins : BeginsWithLf prefix
  line : at.line + length (prefix ++ after) < 2 ^ 64
  column : at.column + length (prefix ++ after) < 2 ^ 64

begin_alike : (prefix after : List Char) → BeginsWithLf (prefix ++ after) → 0 < length prefix → AllSmall (prefix ++ after) → BeginAlike prefix after
begin_alike [] after h k s = absurd (omega (arith, k))
begin_alike (x ∷ prefix) after h k s = record { at = x.place; all = refl; some = refl; begins = h; line = s.0; column = s.1.0 }

-- ---- lists of the prefix

-- a prefix of a prefix, before something else
prefix_of_prefix : {X : Type 0} (i n : ℕ) (xs ys : List X) → i ≤ n → n ≤ length xs → take i (take n xs ++ ys) ≡ take i xs
prefix_of_prefix i n xs ys h k =
    let m : length (take n xs) ≡ n = length-take-le n xs k in
    let few : i ≤ length (take n xs) = omega arith in
    take-append-le i (take n xs) ys few
    ∙ sym (take-append-le i (take n xs) (drop n xs) few)
    ∙ ap (take i) (take-append-drop n xs)

module _ (ends : (at : Place) (t : List ℕ) → EndsOnce at t) (emits : (at : Place) (t : List ℕ) → with_events empty_text (concat_of (events_by_point at t)) ≡ text_built_at at t)
    (spans : (t : List ℕ) → StandsForView (kept t) (view_in t) t) (in_order : (at : Place) (t : List ℕ) → concat_of (events_by_point at t) ≡ events_of at t)
    (fresh_is : (at : Place) (t : List ℕ) → CountsFit at t → events_left (fresh_stage at) t ≡ events_by_point at t)
    (so_far : (s : TextStage) (t u v : List ℕ) → take (length t) (events_left s (t ++ u)) ≡ take (length t) (events_left s (t ++ v)))
    (notes_so_far : (split : Bool) (macros : ℕ) (xs ys zs : List Char) → take (length xs) (notes.note_events split macros (xs ++ ys)) ≡ take (length xs) (notes.note_events split macros (xs ++ zs)))
    (nabc_so_far : (xs ys zs : List Char) → take (length xs) (nabc.nabc_events (xs ++ ys)) ≡ take (length xs) (nabc.nabc_events (xs ++ zs))) (lines macros : ℕ) where
  abbrev events_here : List Char → List (List BodyEvent)
  events_here xs = body_events lines macros xs

  -- a prefix of a body emits what the body emits of it, and the end, at a seam
  pub record IsWholeFront (xs prefix : List Char) (n k : ℕ) : Type 0 where
    pub after : List Char
    pub all : xs ≡ prefix ++ after
    pub few : length prefix ≤ n
    pub events : events_here prefix ≡ take (length prefix) (events_here xs) ++ (finished ∷ []) ∷ []
    pub seam : IsSeam (events_in_points [] (events_here xs) (length prefix))
    pub count : length (all_syllables (events_in_points [] (events_here xs) (length prefix))) ≡ k

  nothing_prefix : (xs : List Char) (n : ℕ) → IsWholeFront xs [] n 0
  nothing_prefix xs n = record { after = xs; all = refl; few = omega arith; events = refl; seam = record { since = refl; uncut = refl }; count = refl }

  -- ---- a reading of the prefix

  module _ (limits : Limits) (head : ℕ) (found : List Finding) (at : Place) (xs prefix : List Char) (n k : ℕ) (w : IsWholeFront xs prefix n k) (most : n ≤ length xs)
      (none : (i : ℕ) → i < n → code_at limits head (events_in_points [] (events_here xs) (suc i)) ≡ None) where
    abbrev before_end : List BodyEvent
    before_end = events_in_points [] (events_here xs) (length prefix)

    points : length (events_here xs) ≡ length xs + 1
    points = events_each texts_by_definition lines macros InComment xs

    enough : length prefix ≤ length (events_here xs)
    enough = let f = w.few in let p = points in omega arith

    point_is : (i : ℕ) → i ≤ length prefix → events_in_points [] (events_here prefix) i ≡ events_in_points [] (events_here xs) i
    point_is i h = grind (arith, prefix_of_prefix, enough)

    none_at_seam : code_at limits head before_end ≡ None
    none_at_seam = none_before ends lines macros limits head (length prefix) (events_here xs) (λ i h. none i (omega (arith, h, w.few)))

    never : (let r = events_to_stop limits head [] prefix (events_here prefix) in (r.fault ≡ None) × ((r.before ≡ before_end) × (r.last ≡ finished ∷ [])))
    never = elim (stop_is_first limits head [] prefix (events_here prefix) (events_each texts_by_definition lines macros InComment prefix)) [
      | inl s ↦ (let m : length (take (length prefix) (events_here xs)) ≡ length prefix = length-take-le (length prefix) (events_here xs) enough in (
        s.fault,
        (
          s.before ∙ point_is (length prefix) (omega arith),
          s.last ∙ ap (λ ls. concat_of (drop (length prefix) ls)) w.events
              ∙ ap (λ i. concat_of (drop i (take (length prefix) (events_here xs) ++ (finished ∷ []) ∷ []))) (sym m)
              ∙ ap concat_of (drop-append_seam (take (length prefix) (events_here xs)) ((finished ∷ []) ∷ [])),
        ),
      ))
      | inr s ↦ (let all : length prefix ≡ length s.prefix + suc (length s.rest) = ap length s.all ∙ length-append s.prefix (s.here ∷ s.rest) in
          let p = ap (code_at limits head) (sym (point_is (suc (length s.prefix)) (omega arith))) ∙ s.passed in
          let q = none (length s.prefix) (omega (arith, all, w.few)) in
          absurd (cc (sym q ∙ p)))
    ]

    pub prefix_read : (let r = events_to_stop limits head [] prefix (events_here prefix) in let b = result_by limits head found at Whole r.before r.last r.fault in
        (b.fault ≡ None) × (b.syllables ≡ with_positions (all_syllables before_end)))
    prefix_read = grind (arith, never, seam_read, none_at_seam)

  -- ---- the prefix of a body

  pub prefix_count : (k : ℕ) (xs prefix : List Char) (n : ℕ) → (w : IsWholeFront xs prefix n k) → n ≤ length xs → length (all_syllables (events_in_points [] (events_here xs) n)) ≡ k
      → all_syllables (events_in_points [] (events_here xs) (length prefix)) ≡ all_syllables (events_in_points [] (events_here xs) n)
  prefix_count k xs prefix n w most e =
      let a = events_in_points [] (events_here xs) (length prefix) in
      let b = events_in_points [] (events_here xs) n in
      let p : length (events_here xs) ≡ length xs + 1 = events_each texts_by_definition lines macros InComment xs in
      let enough : n ≤ length (events_here xs) = omega arith in
      let lists : take (length prefix) (take n (events_here xs)) ≡ take (length prefix) (events_here xs) =
      ap (take (length prefix)) (sym (append-nil (take n (events_here xs)))) ∙ prefix_of_prefix (length prefix) n (events_here xs) [] w.few enough in
      let now = concat_of (drop (length prefix) (take n (events_here xs))) in
      let on : events_onto now a ≡ b =
      ap (λ ls. events_onto now (events_onto (concat_of ls) [])) (sym lists)
      ∙ sym (onto_append (concat_of (take (length prefix) (take n (events_here xs)))) now [])
      ∙ ap (λ ts. events_onto ts []) (sym (joined-append (take (length prefix) (take n (events_here xs))) (drop (length prefix) (take n (events_here xs)))) ∙ ap concat_of (take-append-drop (length prefix) (take n (events_here xs)))) in
      sym (made_before now a)
      ∙ ap (λ c. take (length (all_syllables a)) (all_syllables c)) on
      ∙ ap (λ m. take m (all_syllables b)) (w.count ∙ sym e)
      ∙ take-length (all_syllables b)

  units_are_prefix : (xs comment : List Char) (u : Units) (n j : ℕ) → IsCutFrom texts_by_definition lines macros xs comment (Some (cutting_of lines u)) → AllSmall xs → size (codes_of xs) < 2 ^ 63
      → count_within (n - length comment) u.closed ≡ suc j → IsWholeFront xs (comment ++ whole (units_pieces lines (take (suc j) u.closed) (JustText [])) []) n (suc j)
  units_are_prefix xs comment u n j h small fits counted =
      let pieces = units_pieces lines u.closed u.last in
      let last = last_characters u.last in
      let ys = whole pieces last in
      let us = take (suc j) u.closed in
      let fronts = units_pieces lines us (JustText []) in
      let zs = whole fronts [] in
      let tail = whole (units_pieces lines (drop (suc j) u.closed) u.last) last in
      let prefix = comment ++ zs in
      let split : ys ≡ zs ++ tail = first_whole fresh_is so_far notes_so_far nabc_so_far lines macros (suc j) u.closed u.last in
      let some_units : suc j ≤ length u.closed = subst (λ k. k ≤ length u.closed) counted (within_few (n - length comment) u.closed) in
      let zs_are : zs ≡ characters_from us (JustText []) = units_whole lines us (JustText []) in
      let zs_count : length zs ≡ length (characters_from us (JustText [])) = ap length zs_are in
      let fit : length (characters_from us (JustText [])) ≤ n - length comment = subst (λ k. length (characters_from (take k u.closed) (JustText [])) ≤ n - length comment) counted (count_fits (n - length comment) u.closed) in
      let some : 0 < length (characters_from us (JustText [])) = some_characters j u.closed some_units in
      let some_zs : 0 < length zs = omega arith in
      let front_count : length prefix ≡ length comment + length zs = length-append comment zs in
      let small_ys : AllSmall ys = small_after comment ys (subst AllSmall h.0 small) in
      let fits_ys : size (codes_of ys) < 2 ^ 63 = fits_back comment ys (subst (λ cs. size (codes_of cs) < 2 ^ 63) h.0 fits) in
      let a = begin_alike zs tail (subst BeginsWithLf split h.1.1.0) some_zs (subst AllSmall split small_ys) in
      let first_is : first_text texts_by_definition ys ≡ text_from texts_by_definition a.at ys = ap (first_text texts_by_definition) split ∙ a.all ∙ ap (text_from texts_by_definition a.at) (sym split) in
      let cuts : Cuts texts_by_definition lines macros (text_from texts_by_definition a.at ys) pieces last = subst (λ part. Cuts texts_by_definition lines macros part pieces last) first_is h.1.1.1 in
      let at_small : SmallAt a.at ys = record {
        line = subst (λ cs. a.at.line + length cs < 2 ^ 64) (sym split) a.line;
        column = subst (λ cs. a.at.column + length cs < 2 ^ 64) (sym split) a.column;
        bytes = fits_ys;
      } in
      let f = units_prefix fresh_is so_far notes_so_far nabc_so_far lines macros (suc j) u.closed u.last a.at small_ys at_small cuts in
      let cut : BodyCutting = record { comment = comment; units = Some (record { closed = us; last = JustText [] }) } in
      let is_cut : IsCut texts_by_definition lines macros prefix cut = (refl, (h.1.0, (a.begins, subst (λ part. Cuts texts_by_definition lines macros part fronts []) (sym a.some) f.cuts))) in
      let nothing = map nothing_of comment in
      let lists = events_of_cutting texts_by_definition lines macros (text_from texts_by_definition a.at ys) pieces last in
      let end = (finished ∷ []) ∷ [] in
      let whole_cut : BodyCutting = record { comment = comment; units = Some u } in
      let all_lists : events_here xs ≡ nothing ++ lists = body_emits_all texts_by_definition lines macros xs whole_cut h ∙ ap (λ part. nothing ++ events_of_cutting texts_by_definition lines macros part pieces last) first_is in
      let counts : length prefix ≡ length nothing + length zs = omega (arith, length-map comment nothing_of) in
      let taken : take (length prefix) (events_here xs) ≡ nothing ++ take (length zs) lists =
      ap (take (length prefix)) all_lists ∙ ap (λ i. take i (nothing ++ lists)) counts ∙ take-append-add nothing lists (length zs) in
      let events : events_here prefix ≡ take (length prefix) (events_here xs) ++ end =
      body_emits_all texts_by_definition lines macros prefix cut is_cut
      ∙ ap (λ part. nothing ++ events_of_cutting texts_by_definition lines macros part fronts []) a.some
      ∙ ap (λ ls. nothing ++ ls) f.events
      ∙ sym (append_assoc nothing (take (length zs) lists) end)
      ∙ ap (λ ls. ls ++ end) (sym taken) in
      let fits_zs : size (codes_of zs) < 2 ^ 63 = fits_prefix zs tail (subst (λ cs. size (codes_of cs) < 2 ^ 63) split fits_ys) in
      let g = units_give ends emits spans in_order lines macros us (JustText []) a.at [] refl fits_zs f.cuts in
      let r = events_in_points [] (events_here xs) (length prefix) in
      let by_units : events_onto (concat_of (events_here prefix)) [] ≡ finished ∷ g.mid =
      body_all ends emits spans in_order lines macros prefix cut is_cut
      ∙ ap (λ part. events_onto (concat_of (events_of_cutting texts_by_definition lines macros part fronts [])) []) a.some ∙ g.events_are in
      let by_prefix : events_onto (concat_of (events_here prefix)) [] ≡ finished ∷ r =
      ap (λ ls. events_onto (concat_of ls) []) events
      ∙ ap (λ ts. events_onto ts []) (joined-append (take (length prefix) (events_here xs)) end)
      ∙ onto_append (concat_of (take (length prefix) (events_here xs))) (finished ∷ []) [] in
      let same : r ≡ g.mid = let e = sym by_prefix ∙ by_units in cc in
      let made : length (all_syllables g.mid) ≡ length g.step.made = ap length g.step.made_is in
      let as_units : length g.step.made ≡ length (closed_units us (JustText [])) = as_many lines false false (closed_units us (JustText [])) g.step.made g.step.are in
      let as_closed : length (closed_units us (JustText [])) ≡ length us = closed_count us (JustText []) in
      let as_taken : length us ≡ suc j = length-take-le (suc j) u.closed some_units in
      record {
        after = tail;
        all = h.0 ∙ ap (λ cs. comment ++ cs) split ∙ sym (append_assoc comment zs tail);
        few = omega arith;
        events = events;
        seam = record { since = ap since_close same ∙ g.step.since; uncut = ap cut_of same ∙ g.step.uncut };
        count = ap (λ b. length (all_syllables b)) same ∙ made ∙ as_units ∙ as_closed ∙ as_taken;
      }

  -- the prefix through the last unit that ends within n characters
  pub prefix_is : (xs : List Char) (cut : BodyCutting) (n : ℕ) → IsCut texts_by_definition lines macros xs cut → AllSmall xs → size (codes_of xs) < 2 ^ 63
      → IsWholeFront xs (through_unit (whole_count n cut) cut) n (whole_count n cut)
  prefix_is xs cut n h small fits = by cut.units h (whole_count n cut) refl
    where
      by : (o : Option Units) → IsCutFrom texts_by_definition lines macros xs cut.comment (option_map (cutting_of lines) o) → (k : ℕ) → count_in (n - length cut.comment) o ≡ k
          → IsWholeFront xs (through_unit k (record { comment = cut.comment; units = o })) n k
      by o g zero e = nothing_prefix xs n
      by None g (suc j) e = absurd (omega (arith, e))
      by (Some u) g (suc j) e =
          subst (λ cs. IsWholeFront xs (cut.comment ++ cs) n (suc j)) (units_whole lines (take (suc j) u.closed) (JustText []) ∙ sym (flat_is (take (suc j) u.closed)))
          (units_are_prefix xs cut.comment u n j g small fits e)
