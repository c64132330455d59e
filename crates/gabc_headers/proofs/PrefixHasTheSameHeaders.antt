-- What stands after the line `%%` is no matter to the headers.
use Rattle.std.proofs.Common.{◌≡◌, ℕ, ◌+◌, ◌<◌, ◌≤◌, ◌==◌, ◌||◌, ◌&&◌, nat_lt, List, [], ◌∷◌, ◌++◌, Bool, true, false, cond, refl, sym, ap, ◌∙◌, arith, length, take, append_assoc, Option, Some, None, Ok}
use Rattle.std.proofs.lemmas.Bool.{eqb-true, and_parts}
use Rattle.std.proofs.Math.Seq.{take-append-add}
use Rattle.gabc_places.proofs.NothingAfterAnEnd.{both_empty}
use Rattle.gabc_places.specs.declared.limits.Limits.{Limits}
use Rattle.gabc_places.specs.declared.code.Code.TheVariants.{F4}
use Rattle.gabc_places.specs.Findings.{Stop, earliest}
use Rattle.gabc_places.specs.Place.{place_after}
use Rattle.gabc_headers.specs.declared.heads.Heads.{Heads}
use Rattle.gabc_headers.specs.Book.{book_of}
use Rattle.gabc_headers.specs.Lines.{lines, has_score, is_percent, is_score_line}
use Rattle.gabc_headers.specs.witness.Parts.{outside, parts, head_parts}
use Rattle.gabc_headers.specs.Heads.{head_len, open_line, stop_at, first_above, is_line_percent, too_long, text_stops, open_stops, heads_of}
use Rattle.gabc_headers.specs.witness.Heads.{score_stops, head_stops, heads_by}
use Rattle.gabc_headers.proofs.groups.TextBeforeScore.{head_text, is_scored, score_lines, head_length, parts_head}
use Rattle.gabc_headers.proofs.stops.PointsOfStops.{above_within}
use Rattle.gabc_headers.proofs.stops.TextTooLong.{take_head}
use Rattle.gabc_headers.proofs.groups.BookNeedsScoreLine.{score_after, has_score_line}

-- ---- the text before the line `%%`

-- after it stands `%%`
pub marked_at : (s : Bool) (r : List ℕ) → is_scored s r ≡ true → (rest : List ℕ) × (r ≡ head_text s r ++ 37 ∷ 37 ∷ rest)
marked_at s [] h = absurd (cc)
marked_at s (c ∷ r) h = by (s && is_score_line (c ∷ r)) refl h (λ k. marked_at (c == 10) r k)
  where
    percents : (r : List ℕ) → (c == 37) ≡ true → is_percent r ≡ true → (rest : List ℕ) × (c ∷ r ≡ 37 ∷ 37 ∷ rest)
    percents [] e f = absurd (cc)
    percents (d ∷ r) e f = (r, ap (λ x. x ∷ d ∷ r) (eqb-true c 37 e) ∙ ap (λ x. 37 ∷ x ∷ r) (eqb-true d 37 f))

    by : (b : Bool) → (s && is_score_line (c ∷ r)) ≡ b → (b || is_scored (c == 10) r) ≡ true → (is_scored (c == 10) r ≡ true → (rest : List ℕ) × (r ≡ head_text (c == 10) r ++ 37 ∷ 37 ∷ rest))
        → (rest : List ℕ) × (c ∷ r ≡ cond b [] (c ∷ head_text (c == 10) r) ++ 37 ∷ 37 ∷ rest)
    by true e k on = let l = (and_parts s (is_score_line (c ∷ r)) e).1 in percents r (and_parts (c == 37) (is_percent r) l).0 (and_parts (c == 37) (is_percent r) l).1
    by false e k on = let o = on k in (o.0, ap (λ x. c ∷ x) o.1)

module _ (more : List ℕ) where
  abbrev prefix : Bool → List ℕ → List ℕ
  prefix s r = head_text s r ++ 37 ∷ 37 ∷ more

  percent_same : (s : Bool) (r : List ℕ) → is_scored s r ≡ true → is_percent (prefix s r) ≡ is_percent r
  percent_same s r h = grind (arith, and_parts)

  record Same (s : Bool) (r : List ℕ) : Type 0 where
    scored : is_scored s (prefix s r) ≡ true
    text : head_text s (prefix s r) ≡ head_text s r

  marked : (s : Bool) → s ≡ true → (is_scored s (37 ∷ 37 ∷ more) ≡ true) × (head_text s (37 ∷ 37 ∷ more) ≡ [])
  marked s e = grind arith

  same_text : (s : Bool) (r : List ℕ) → is_scored s r ≡ true → Same s r
  same_text s [] h = absurd (cc)
  same_text s (c ∷ r) h = by (s && is_score_line (c ∷ r)) refl h (λ k. same_text (c == 10) r k)
    where
      by : (b : Bool) → (s && is_score_line (c ∷ r)) ≡ b → (b || is_scored (c == 10) r) ≡ true → (is_scored (c == 10) r ≡ true → Same (c == 10) r) → Same s (c ∷ r)
      by true e k on =
          let m = marked s (and_parts s (is_score_line (c ∷ r)) e).0 in
          let f : prefix s (c ∷ r) ≡ 37 ∷ 37 ∷ more = ap (λ b. cond b [] (c ∷ head_text (c == 10) r) ++ 37 ∷ 37 ∷ more) e in
          record {
            scored = ap (is_scored s) f ∙ m.0;
            text = ap (head_text s) f ∙ m.1 ∙ sym (ap (λ b. cond b [] (c ∷ head_text (c == 10) r)) e);
          }
      by false e k on =
          let o = on k in
          let later = prefix (c == 10) r in
          let f : prefix s (c ∷ r) ≡ c ∷ later = ap (λ b. cond b [] (c ∷ head_text (c == 10) r) ++ 37 ∷ 37 ∷ more) e in
          let line : (s && is_score_line (c ∷ later)) ≡ false = ap (λ p. s && ((c == 37) && p)) (percent_same (c == 10) r k) ∙ e in
          record {
            scored = ap (is_scored s) f ∙ ap (λ b. b || is_scored (c == 10) later) line ∙ o.scored;
            text = ap (head_text s) f ∙ ap (λ b. cond b [] (c ∷ head_text (c == 10) later)) line ∙ ap (λ x. c ∷ x) o.text ∙ sym (ap (λ b. cond b [] (c ∷ head_text (c == 10) r)) e);
          }

-- ---- what stops the headers

never_empty : {X : Type 0} (x : X) (b : Bool) (i : ℕ) (n : ℕ) → i < n → (y : X) → cond b (cond (nat_lt i n) (x ∷ []) []) (y ∷ []) ≡ [] → ⊥
never_empty x b i n h y e = grind arith

module _ (limits : Limits) (t more : List ℕ) (heads : Heads) (ok : heads_of limits t ≡ Ok heads) where
  abbrev again : List ℕ
  again = take (head_len t + 2) t ++ more

  has_line : is_scored true t ≡ true
  has_line = sym (score_lines t) ∙ has_score_line limits t heads ok

  again_is : again ≡ prefix more true t
  again_is = grind (arith, marked_at, has_line, head_length, take-append-add, append_assoc)

  text_is : head_text true again ≡ head_text true t
  text_is = ap (head_text true) again_is ∙ (same_text more true t has_line).text

  line_again : has_score (lines again) ≡ true
  line_again = score_lines again ∙ ap (is_scored true) again_is ∙ (same_text more true t has_line).scored

  pub len_again : head_len again ≡ head_len t
  len_again = head_length again ∙ ap length text_is ∙ sym (head_length t)

  parts_again : head_parts again ≡ head_parts t
  parts_again = sym (parts_head again) ∙ ap (λ x. parts outside 1 0 (lines x)) text_is ∙ parts_head t

  none_stops : head_stops limits t ≡ []
  none_stops = grind arith

  abbrev after_line : List ℕ → List Stop
  after_line u = open_stops (head_len u + 1) (open_line (head_parts u)) ++ score_stops limits u

  pub none_apart : (text_stops limits.header t ≡ []) × (after_line t ≡ [])
  none_apart = grind (arith, has_score_line, none_stops, both_empty)

  not_long : (o : Option ℕ) → first_above limits.header (head_text true t) ≡ o → too_long t o ≡ [] → o ≡ None
  not_long None e h = refl
  not_long (Some i) e h =
      let low : i < length (head_text true t) = above_within limits.header (head_text true t) i e in
      let len : head_len t ≡ length (head_text true t) = head_length t in
      let after : head_len t + 2 ≤ length t = score_after limits t heads ok in
      let inside : i + 1 < length t = omega arith in
      absurd (never_empty (stop_at (i + 1) (place_after (take i t)) F4) (is_line_percent t i) (i + 1) (length t) inside (stop_at i (place_after (take i t)) F4) h)

  text_again : text_stops limits.header again ≡ []
  text_again = grind (arith, not_long, take_head, none_apart, text_is)

  after_again : after_line again ≡ []
  after_again = grind (arith, len_again, take_head, text_is, parts_again, none_apart)

  none_again : head_stops limits again ≡ []
  none_again = grind (arith, line_again, text_again, after_again)

  -- the headers of the prefix are read whole, with the same book
  pub heads_again : (other : Heads) × (heads_of limits again ≡ Ok other) × (other.book ≡ heads.book)
  heads_again =
      let book : heads.book ≡ book_of (head_parts t) = by (ap (λ stops. heads_by t (earliest stops)) (sym none_stops) ∙ ok) in (
        _,
        ap (λ stops. heads_by again (earliest stops)) none_again,
        ap book_of parts_again ∙ sym book,
      )
    where
      by : heads_by t (earliest []) ≡ Ok heads → heads.book ≡ book_of (head_parts t)
      by e = cc
