-- What the syllables of a score hold, where the reading of its body stops.
use Rattle.std.proofs.Common.{◌⊎◌, inl, inr, ◌≡◌, ℕ, ◌+◌, ◌<◌, ◌≤◌, ◌^◌, Bool, true, false, cond, Option, option_map, Some, None, Result, Ok, Err, List, [], ◌∷◌, ◌++◌, length, take, drop, refl, sym, ap, subst, ◌∙◌, arith}
use Rattle.std.specs.List.{All}
use Rattle.std.proofs.lemmas.List.Elements.{All-nil, All-cons, All-head, All-tail, All-take}
use Rattle.std.proofs.lemmas.List.{take-append-drop}
use Rattle.gabc_places.specs.Place.{place_after, placed_characters_after}
use Rattle.gabc_headers.specs.declared.heads.Heads.{Heads}
use Rattle.gabc_headers.specs.declared.heads.HeadFault.{HeadFault}
use Rattle.gabc_headers.specs.Book.{nabc_lines_of, macros_of}
use Rattle.gabc_headers.specs.Canonical.{canonical_heads}
use Rattle.gabc_headers.specs.Lines.{bytes_len}
use Rattle.gabc_headers.specs.Heads.{head_len, heads_of}
use Rattle.gabc_text.specs.BuiltText.{with_events, empty_text, text_built_at}
use Rattle.gabc_text.specs.Ends.{EndsOnce}
use Rattle.gabc_text.specs.Events.{codes_of, events_by_point}
use Rattle.gabc_body.specs.Events.{body_events}
use Rattle.gabc_body.specs.Score.{heads_text, after_heads}
use Rattle.gabc_body.specs.Holding.{HoldsNoNotes, Holds, HoldsWithNotes, HoldsParts, lines_of}
use Rattle.gabc_body.proofs.score_events.PlainScores.{plain_by, plain_of}
use Rattle.gabc_body.proofs.texts_of_body.SeamsOfCharacters.{size, size_append}
use Rattle.gabc_text.specs.ViewFacts.{StandsForView}
use Rattle.gabc_text.specs.View.{kept}
use Rattle.gabc_text.specs.TextRead.{view_in}
use Rattle.gabc_body.proofs.holding.SyllableHoldsPartByPart.{IsBack}
use Rattle.gabc_body.proofs.holding.SyllablesHoldParts.{body_holds}
use Rattle.gabc_body.proofs.order.FindingsOfScore.{reached_prefix}
use Rattle.gabc_places.specs.StageLaw.{concat_of}
use Rattle.gabc_places.specs.declared.code.Code.{Code}
use Rattle.gabc_places.specs.declared.code.Finding.{Finding}
use Rattle.gabc_places.specs.declared.code.Fault.{Fault}
use Rattle.gabc_places.specs.declared.limits.Limits.{Limits}
use Rattle.gabc_places.specs.declared.place.Place.{Place}
use Rattle.gabc_places.specs.declared.place.Char.{Char}
use Rattle.gabc_body.specs.declared.events.BodyEvent.{BodyEvent}
use Rattle.gabc_body.specs.declared.ending.InputEnding.{InputEnding}
use Rattle.gabc_body.specs.declared.ending.InputEnding.TheVariants.{Whole}
use Rattle.gabc_body.specs.Syllable.{UnplacedSyllable, PlacedSyllable, all_syllables, since_close, kept_of}
use Rattle.gabc_body.specs.Canonical.{placed_syllables_by, with_positions}
use Rattle.gabc_body.specs.Body.{events_onto, code_by, events_to_stop, has_last, last_syllable, all_units, cut_of, fault_at, fault_of_end, result_by_fault, result_by, body_of}
use Rattle.gabc_body.proofs.emitted.EventsOfSyllableParts.{onto_append}
use Rattle.gabc_body.proofs.gathering.EventsOfOnePoint.{made_before}

-- P holds of the syllables whose `)` was emitted, and L of a last one that has none
module _ (P L : UnplacedSyllable → Type 0) where
  abbrev MadeHold : List BodyEvent → Type 0
  MadeHold before = All P (all_syllables before)

  -- what holds of the syllables at a point holds of those at a point before
  prefix_holds : (now before : List BodyEvent) → MadeHold (events_onto now before) → MadeHold before
  prefix_holds now before h = subst (All P) (made_before now before) (All-take P (length (all_syllables before)) (all_syllables (events_onto now before)) h)

  -- up to where a reading gets
  pub reached_holds : (limits : Limits) (head : ℕ) (before : List BodyEvent) (xs : List Char) (lists : List (List BodyEvent)) → MadeHold (events_onto (concat_of lists) before) → MadeHold (events_to_stop limits head before xs lists).before
  reached_holds limits head before xs lists h =
      let p = reached_prefix limits head before xs lists in
      subst MadeHold (sym p.emitted) (prefix_holds p.more (events_onto p.prefix before) (subst MadeHold (ap (λ ts. events_onto ts before) p.all ∙ onto_append p.prefix p.more before) h))

  -- ---- the syllables with their positions

  abbrev pub FactsHold : List PlacedSyllable → Type 0
  FactsHold [] = Unit {0}
  FactsHold (s ∷ []) = P s.made ⊎ L s.made
  FactsHold (s ∷ t ∷ ss) = P s.made × FactsHold (t ∷ ss)

  all_hold : (first : Bool) (ms : List UnplacedSyllable) → All P ms → FactsHold (placed_syllables_by first ms)
  all_hold first [] h = tt
  all_hold first (m ∷ []) h = inl (All-head P m [] h)
  all_hold first (m ∷ n ∷ ms) h = (All-head P m (n ∷ ms) h, all_hold false (n ∷ ms) (All-tail P m (n ∷ ms) h))

  with_last : (first : Bool) (ms : List UnplacedSyllable) (m : UnplacedSyllable) → All P ms → L m → FactsHold (placed_syllables_by first (ms ++ m ∷ []))
  with_last first [] m h k = inr k
  with_last first (n ∷ []) m h k = (All-head P n [] h, inr k)
  with_last first (n ∷ l ∷ ms) m h k = (All-head P n (l ∷ ms) h, with_last false (l ∷ ms) m (All-tail P n (l ∷ ms) h) k)

  tail_hold : (s : PlacedSyllable) (ss : List PlacedSyllable) → FactsHold (s ∷ ss) → FactsHold ss
  tail_hold s ss h = grind arith

  pub facts_all : (ss : List PlacedSyllable) → FactsHold ss → All (λ (s : PlacedSyllable). P s.made ⊎ L s.made) ss
  facts_all [] h = All-nil (λ (s : PlacedSyllable). P s.made ⊎ L s.made)
  facts_all (s ∷ []) h = All-cons (λ (s : PlacedSyllable). P s.made ⊎ L s.made) s [] h (All-nil (λ (s : PlacedSyllable). P s.made ⊎ L s.made))
  facts_all (s ∷ t ∷ ss) h = All-cons (λ (s : PlacedSyllable). P s.made ⊎ L s.made) s (t ∷ ss) (inl h.0) (facts_all (t ∷ ss) h.1)

  pub facts_noted : (before after : List PlacedSyllable) (s next : PlacedSyllable) → FactsHold (before ++ s ∷ next ∷ after) → P s.made
  facts_noted [] after s next h = h.0
  facts_noted (b ∷ before) after s next h = facts_noted before after s next (tail_hold b (before ++ s ∷ next ∷ after) h)

  pub units_hold : (all : List BodyEvent) → MadeHold all → (has_last all ≡ true → L (last_syllable all)) → FactsHold (with_positions (all_units all))
  units_hold all h k = by (has_last all) refl
    where
      by : (b : Bool) → has_last all ≡ b → FactsHold (with_positions (cond b (all_syllables all ++ last_syllable all ∷ []) (all_syllables all)))
      by true e = with_last true (all_syllables all) (last_syllable all) h (k e)
      by false e = all_hold true (all_syllables all) h

  -- ---- where the reading ended

  module _ (limits : Limits) (head : ℕ) (found : List Finding) (at : Place) where
    ended_hold : (before all : List BodyEvent) → MadeHold before → MadeHold all → (cut_of all ≡ None → has_last all ≡ true → L (last_syllable all))
        → FactsHold (result_by_fault found at before all (fault_of_end limits head at all (cut_of all))).syllables
    ended_hold before all h k l = by (cut_of all) refl
      where
        code_is : (code : Option Code) → cut_of all ≡ None → FactsHold (result_by_fault found at before all (option_map (fault_at at) code)).syllables
        code_is None e = units_hold all k (l e)
        code_is (Some code) e = all_hold true (all_syllables before) h

        by : (o : Option Place) → cut_of all ≡ o → FactsHold (result_by_fault found at before all (fault_of_end limits head at all o)).syllables
        by (Some place) e = all_hold true (all_syllables before) h
        by None e = code_is (code_by limits head (all_units all) (kept_of (since_close all))) e

    pub read_hold : (ending : InputEnding) (before last : List BodyEvent) (fault : Option Fault) → MadeHold before
        → (fault ≡ None → MadeHold (events_onto last before) × (cut_of (events_onto last before) ≡ None → has_last (events_onto last before) ≡ true → L (last_syllable (events_onto last before))))
        → FactsHold (result_by limits head found at ending before last fault).syllables
    read_hold ending before last (Some fault) h k = all_hold true (all_syllables before) h
    read_hold Whole before last None h k = ended_hold before (events_onto last before) h (k refl).0 (k refl).1
    read_hold _ before last None h k = all_hold true (all_syllables before) h

    pub body_hold : (ending : InputEnding) (xs : List Char) (lists : List (List BodyEvent)) → (let all = events_onto (concat_of lists) [] in
        MadeHold all → (cut_of all ≡ None → has_last all ≡ true → L (last_syllable all)) → FactsHold (body_of limits head found at ending xs lists).syllables)
    body_hold ending xs lists h k =
        let r = events_to_stop limits head [] xs lists in
        read_hold ending r.before r.last r.fault (reached_holds limits head [] xs lists h) (λ e. subst (λ all. MadeHold all × (cut_of all ≡ None → has_last all ≡ true → L (last_syllable all))) (sym ((reached_prefix limits head [] xs lists).last e)) (h, k))

-- ---- the score

pub codes_placed : (prefix after : List ℕ) → codes_of (placed_characters_after prefix after) ≡ after
codes_placed prefix [] = refl
codes_placed prefix (c ∷ after) = ap (λ cs. c ∷ cs) (codes_placed (prefix ++ c ∷ []) after)

size_after : (n : ℕ) (t : List ℕ) → size (drop n t) ≤ size t
size_after n t =
    let all : size t ≡ size (take n t) + size (drop n t) = ap size (sym (take-append-drop n t)) ∙ size_append (take n t) (drop n t) in
    omega arith

module _ (ends : (at : Place) (t : List ℕ) → EndsOnce at t) (emits : (at : Place) (t : List ℕ) → with_events empty_text (concat_of (events_by_point at t)) ≡ text_built_at at t) (spans : (t : List ℕ) → StandsForView (kept t) (view_in t) t) (limits : Limits) (ending : InputEnding) (t : List ℕ) (short : size t < 2 ^ 63) where
  pub after_short : size (codes_of (placed_characters_after (heads_text t) (after_heads t))) < 2 ^ 63
  after_short = grind (arith, size_after, codes_placed)

  after_back : IsBack t (codes_of (placed_characters_after (heads_text t) (after_heads t)))
  after_back = (heads_text t, sym (take-append-drop (head_len t + 2) t) ∙ ap (λ cs. heads_text t ++ cs) (sym (codes_placed (heads_text t) (after_heads t))))

  abbrev Says : List PlacedSyllable → ℕ → Type 0
  Says ss lines = FactsHold (HoldsWithNotes t lines) (Holds HoldsNoNotes t) ss

  by_heads : (r : Result Heads HeadFault) → (let score = plain_by limits ending t r in Says score.syllables (lines_of score))
  by_heads (Err stop) = tt
  by_heads (Ok heads) =
      let lines = nabc_lines_of heads.book in
      let macros = macros_of heads.book in
      let xs = placed_characters_after (heads_text t) (after_heads t) in
      let holds = body_holds ends emits spans t lines macros xs after_back after_short in
      body_hold (HoldsWithNotes t lines) (Holds HoldsNoNotes t) limits (bytes_len (canonical_heads heads.book)) heads.findings (place_after t) ending xs (body_events lines macros xs) holds.made holds.last

  pub score_holds : (let score = plain_of limits ending t in All (λ (s : PlacedSyllable). HoldsParts t (lines_of score) s.made) score.syllables)
  score_holds = grind (arith, facts_all, by_heads)

  pub score_noted : (let score = plain_of limits ending t in (before after : List PlacedSyllable) (s next : PlacedSyllable) → score.syllables ≡ before ++ s ∷ next ∷ after → HoldsWithNotes t (lines_of score) s.made)
  score_noted before after s next e =
      let score = plain_of limits ending t in
      facts_noted (HoldsWithNotes t (lines_of score)) (Holds HoldsNoNotes t) before after s next (subst (λ ss. Says ss (lines_of score)) e (by_heads (heads_of limits t)))
