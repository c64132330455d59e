-- A stopped score has the book and the syllables of its prefix, which is read without a fault.
use Rattle.std.proofs.Common.{Bool, false, ◌≡◌, ℕ, suc, ◌+◌, ◌-◌, ◌<◌, ◌≤◌, ◌^◌, Option, Some, None, Result, Ok, Err, List, [], ◌∷◌, ◌++◌, length, take, drop, refl, sym, ap, subst, ◌∙◌, arith, take-append-drop}
use Rattle.std.proofs.lemmas.List.{length-take-le}
use Rattle.std.proofs.lemmas.Str.{len_utf8_bounds}
use Rattle.std.proofs.Math.Seq.{take-append_seam, drop-append_seam}
use Rattle.gabc_places.specs.StageLaw.{concat_of}
use Rattle.gabc_places.specs.Place.{place_after, placed_characters_after, place_past, placed_characters_from}
use Rattle.gabc_places.specs.declared.limits.Limits.{Limits}
use Rattle.gabc_places.specs.declared.place.Place.{Place}
use Rattle.gabc_places.specs.declared.place.Char.{Char}
use Rattle.gabc_headers.specs.declared.heads.Heads.{Heads}
use Rattle.gabc_headers.specs.declared.heads.HeadFault.{HeadFault}
use Rattle.gabc_headers.specs.Book.{nabc_lines_of, macros_of}
use Rattle.gabc_headers.specs.Canonical.{canonical_heads}
use Rattle.gabc_headers.specs.Lines.{bytes_len}
use Rattle.gabc_headers.specs.Heads.{head_len, heads_of}
use Rattle.gabc_text.specs.declared.stage.TextStage.{TextStage}
use Rattle.gabc_text.specs.BuiltText.{with_events, empty_text, text_built_at}
use Rattle.gabc_text.specs.Ends.{EndsOnce}
use Rattle.gabc_text.specs.Events.{CountsFit, codes_of, events_of, events_by_point}
use Rattle.gabc_text.specs.witness.EventsLeft.{events_left}
use Rattle.gabc_text.specs.TextStage.{fresh_stage}
use Rattle.gabc_text.specs.ViewFacts.{StandsForView}
use Rattle.gabc_text.specs.View.{kept}
use Rattle.gabc_text.specs.TextRead.{view_in}
use Rattle.gabc_notes.specs.Events as notes
use Rattle.gabc_nabc.specs.Events as nabc
use Rattle.gabc_body.specs.declared.body_result.BodyResult.{BodyResult}
use Rattle.gabc_body.specs.declared.score.Score.{Score}
use Rattle.gabc_body.specs.declared.events.BodyEvent.{BodyEvent}
use Rattle.gabc_body.specs.declared.ending.InputEnding.{InputEnding}
use Rattle.gabc_body.specs.declared.ending.InputEnding.TheVariants.{Whole}
use Rattle.gabc_body.specs.Body.{code_at, events_to_stop, body_of}
use Rattle.gabc_body.specs.Canonical.{with_positions}
use Rattle.gabc_body.specs.Events.{body_events}
use Rattle.gabc_body.specs.Score.{heads_text, after_heads, with_body}
use Rattle.gabc_body.specs.Stops.{events_in_points}
use Rattle.gabc_body.specs.Syllable.{all_syllables}
use Rattle.gabc_body.specs.Units.{Units, BodyCutting}
use Rattle.gabc_body.specs.SyllablesOfUnits.{count_in, whole_count, through_unit, whole_prefix, units_within, body_characters, IsBodyCut, AreBeforeStop, AreBeforeBodyStop}
use Rattle.gabc_body.proofs.score_events.PlainScores.{plain_by, plain_of}
use Rattle.gabc_body.proofs.texts_of_body.SeamsOfCharacters.{size, size_append, size_of_one}
use Rattle.gabc_places.proofs.PlacesOfAText.{placed_after, after_joined, placed_append}
use Rattle.gabc_body.proofs.holding.ScoreHoldsParts.{after_short}
use Rattle.gabc_body.proofs.stopped_scores.StoppedScores.{as_many, closed_count, within_few, point_emits, stopped_read, stop_reached}
use Rattle.gabc_body.proofs.stopped_scores.PrefixHasTheSameUnits.{AllSmall, small_placed, small_after}
use Rattle.gabc_body.proofs.stopped_scores.StoppedScoreIsThatOfItsPrefix.{prefix_is, prefix_read, prefix_count}

-- ---- characters with their places

placed_prefix : (f cs : List ℕ) (xs ys : List Char) → placed_characters_after f cs ≡ xs ++ ys → placed_characters_after f (codes_of xs) ≡ xs
placed_prefix f cs [] ys e = refl
placed_prefix f [] (x ∷ xs) ys e = absurd (cc)
placed_prefix f (c ∷ cs) (x ∷ xs) ys e =
    let here : Char = record { c = c; place = place_after f } in
    let first : here ≡ x = cc in
    let rest : placed_characters_after (f ++ c ∷ []) cs ≡ xs ++ ys = cc in
    subst (λ (y : Char). placed_characters_after f (y.c ∷ codes_of xs) ≡ y ∷ xs) first (ap (λ zs. here ∷ zs) (placed_prefix (f ++ c ∷ []) cs xs ys rest))

some_bytes : (c : ℕ) → 1 ≤ size (c ∷ [])
some_bytes c = omega (arith, size_of_one c, (len_utf8_bounds c).0)

few_characters : (t : List ℕ) → length t ≤ size t
few_characters [] = omega arith
few_characters (c ∷ t) = omega (arith, size_append (c ∷ []) t, some_bytes c, few_characters t)

body_small : (t : List ℕ) → size t < 2 ^ 63 → AllSmall (body_characters t)
body_small t short =
    let few = few_characters t in
    let first : Place = record { line = 1; column = 1 } in
    let all : AllSmall (placed_characters_from first t) = small_placed first t (omega arith) (omega arith) in
    let cut : t ≡ heads_text t ++ after_heads t = sym (take-append-drop (head_len t + 2) t) in
    subst AllSmall
    (ap (λ p. placed_characters_from p (after_heads t)) (after_joined [] (heads_text t)) ∙ placed_after (heads_text t) (after_heads t))
    (small_after (placed_characters_from first (heads_text t)) (placed_characters_from (place_past first (heads_text t)) (after_heads t))
    (subst AllSmall (ap (placed_characters_from first) cut ∙ placed_append first (heads_text t) (after_heads t)) all))

-- ---- the score

within_count : (m : ℕ) (o : Option Units) → length (units_within m o) ≡ count_in m o
within_count m o = grind (arith, closed_count, within_few, length-take-le)

none_before_stop : (limits : Limits) (head : ℕ) (xs : List Char) (lists : List (List BodyEvent)) (n : ℕ) → AreBeforeStop limits head xs lists n
    → (i : ℕ) → i < n → code_at limits head (events_in_points [] lists (suc i)) ≡ None
none_before_stop limits head xs lists n h i few = grind arith

module _ (ends : (at : Place) (t : List ℕ) → EndsOnce at t) (emits : (at : Place) (t : List ℕ) → with_events empty_text (concat_of (events_by_point at t)) ≡ text_built_at at t)
    (spans : (t : List ℕ) → StandsForView (kept t) (view_in t) t) (in_order : (at : Place) (t : List ℕ) → concat_of (events_by_point at t) ≡ events_of at t)
    (fresh_is : (at : Place) (t : List ℕ) → CountsFit at t → events_left (fresh_stage at) t ≡ events_by_point at t)
    (so_far : (s : TextStage) (t u v : List ℕ) → take (length t) (events_left s (t ++ u)) ≡ take (length t) (events_left s (t ++ v)))
    (notes_so_far : (split : Bool) (macros : ℕ) (xs ys zs : List Char) → take (length xs) (notes.note_events split macros (xs ++ ys)) ≡ take (length xs) (notes.note_events split macros (xs ++ zs)))
    (nabc_so_far : (xs ys zs : List Char) → take (length xs) (nabc.nabc_events (xs ++ ys)) ≡ take (length xs) (nabc.nabc_events (xs ++ zs)))
    (after_mark : (limits : Limits) (t : List ℕ) (heads : Heads) → heads_of limits t ≡ Ok heads → head_len t + 2 ≤ length t)
    (same_len : (limits : Limits) (t more : List ℕ) (heads : Heads) → heads_of limits t ≡ Ok heads → head_len (take (head_len t + 2) t ++ more) ≡ head_len t)
    (same_book : (limits : Limits) (t more : List ℕ) (heads : Heads) → heads_of limits t ≡ Ok heads → (other : Heads) × (heads_of limits (take (head_len t + 2) t ++ more) ≡ Ok other) × (other.book ≡ heads.book))
    (limits : Limits) (ending : InputEnding) (t : List ℕ) (cut : BodyCutting) (n : ℕ) (short : size t < 2 ^ 63) where
  abbrev again : List ℕ
  again = whole_prefix t cut n

  abbrev through : List Char
  through = through_unit (whole_count n cut) cut

  abbrev IsAgain : Score → Type 0
  IsAgain score = let other = plain_of limits Whole again in (other.book ≡ score.book) × ((other.syllables ≡ score.syllables) × (other.fault ≡ None))

  again_by : (heads : Heads) → heads_of limits t ≡ Ok heads → IsBodyCut heads.book t cut → AreBeforeBodyStop limits heads.book t n
      → ¬ ((ending ≡ Whole) × ((plain_by limits ending t (Ok heads)).fault ≡ None)) → IsAgain (plain_by limits ending t (Ok heads))
  again_by heads ok h s stopped =
      let lines = nabc_lines_of heads.book in
      let macros = macros_of heads.book in
      let head = bytes_len (canonical_heads heads.book) in
      let xs = body_characters t in
      let lists = body_events lines macros xs in
      let fits = after_short ends emits spans limits ending t short in
      let w = prefix_is ends emits spans in_order fresh_is so_far notes_so_far nabc_so_far lines macros xs cut n h (body_small t short) fits in
      let p = stop_reached limits head xs lists n s in
      let len = same_len limits t (codes_of through) heads ok in
      let o = same_book limits t (codes_of through) heads ok in
      let after : head_len t + 2 ≤ length t = after_mark limits t heads ok in
      let front_len : length (heads_text t) ≡ head_len t + 2 = length-take-le (head_len t + 2) t after in
      let prefix : heads_text again ≡ heads_text t =
      ap (λ m. take (m + 2) again) len ∙ ap (λ m. take m again) (sym front_len) ∙ take-append_seam (heads_text t) (codes_of through) in
      let rest : after_heads again ≡ codes_of through =
      ap (λ m. drop (m + 2) again) len ∙ ap (λ m. drop m again) (sym front_len) ∙ drop-append_seam (heads_text t) (codes_of through) in
      let characters : body_characters again ≡ through =
      ap (λ f. placed_characters_after f (after_heads again)) prefix ∙ ap (placed_characters_after (heads_text t)) rest ∙ placed_prefix (heads_text t) (after_heads t) through w.after w.all in
      let body : List (List ℕ × List ℕ) → List Char → BodyResult = λ b ys.
      body_of limits (bytes_len (canonical_heads b)) o.0.findings (place_after again) Whole ys (body_events (nabc_lines_of b) (macros_of b) ys) in
      let read : body o.0.book (body_characters again) ≡ body heads.book through = ap (λ b. body b (body_characters again)) o.2 ∙ ap (body heads.book) characters in
      let other : plain_of limits Whole again ≡ with_body o.0 (body o.0.book (body_characters again)) = ap (plain_by limits Whole again) o.1 in
      let f = prefix_read ends emits spans in_order fresh_is so_far notes_so_far nabc_so_far lines macros limits head o.0.findings (place_after again) xs through n (whole_count n cut) w p.0 (none_before_stop limits head xs lists n s) in
      let g = point_emits ends emits spans in_order lines macros xs cut n h fits p.0 in
      let us = units_within (n - length cut.comment) cut.units in
      let count : length (all_syllables (events_in_points [] lists n)) ≡ whole_count n cut = ap length g.1.0 ∙ as_many lines false false us g.0 g.1.1 ∙ within_count (n - length cut.comment) cut.units in
      let made = prefix_count ends emits spans in_order fresh_is so_far notes_so_far nabc_so_far lines macros (whole_count n cut) xs through n w p.0 count in
      let r = events_to_stop limits head [] xs lists in
      let first = stopped_read limits head heads.findings (place_after t) ending r.before r.last r.fault stopped ∙ ap (λ a. with_positions (all_syllables a)) p.1 in (
        ap (λ (x : Score). x.book) other ∙ ap (λ b. Some b) o.2,
        (
          ap (λ (x : Score). x.syllables) other ∙ ap (λ (x : BodyResult). x.syllables) read ∙ f.1 ∙ ap with_positions made ∙ sym first,
          ap (λ (x : Score). x.fault) other ∙ ap (λ (x : BodyResult). x.fault) read ∙ f.0,
        ),
      )

  pub prefix_again : (book : List (List ℕ × List ℕ)) → (plain_of limits ending t).book ≡ Some book → IsBodyCut book t cut → AreBeforeBodyStop limits book t n
      → ¬ ((ending ≡ Whole) × ((plain_of limits ending t).fault ≡ None)) → IsAgain (plain_of limits ending t)
  prefix_again book = by (heads_of limits t) refl
    where
      by : (r : Result Heads HeadFault) → heads_of limits t ≡ r → (plain_by limits ending t r).book ≡ Some book → IsBodyCut book t cut → AreBeforeBodyStop limits book t n
          → ¬ ((ending ≡ Whole) × ((plain_by limits ending t r).fault ≡ None)) → IsAgain (plain_by limits ending t r)
      by (Err stop) e b h s k = absurd (cc)
      by (Ok heads) e b h s k =
          let same : heads.book ≡ book = cc in
          again_by heads e (subst (λ c. IsBodyCut c t cut) (sym same) h) (subst (λ c. AreBeforeBodyStop limits c t n) (sym same) s) k
