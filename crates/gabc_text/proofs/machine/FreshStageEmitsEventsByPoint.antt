-- What a fresh stage gives, where no count of the text reaches its last value, is what the text gives.
use Rattle.std.proofs.Common.{◌≡◌, ℕ, ◌+◌, ◌<◌, ◌≤◌, ◌^◌, List, [], ◌∷◌, ◌++◌, true, cond, refl, sym, ap, ◌∙◌, append_assoc, append-nil, length, length-append, map, drop, arith, codes}
use Rattle.std.specs.Char.{len_utf8}
use Rattle.gabc_places.specs.Place.{next_place, place_past}
use Rattle.gabc_places.specs.declared.place.Place.{Place}
use Rattle.gabc_text.specs.declared.token.TokenKind.{TokenKind}
use Rattle.gabc_text.specs.declared.token.TagEffect.{TagEffect}
use Rattle.gabc_text.specs.declared.text_facts.TextFacts.{TextFacts}
use Rattle.gabc_text.specs.declared.progress.Progress.{Progress}
use Rattle.gabc_text.specs.declared.text_event.TextEnd.TheVariants as ending
use Rattle.gabc_text.specs.declared.text_event.TextEvent.{TextEvent}
use Rattle.gabc_text.specs.declared.text_event.TextEvent.TheVariants as out
use Rattle.gabc_text.specs.Token.{Token, spelling, tokens, is_text}
use Rattle.gabc_text.specs.View.{along, effect, kind_of, late_codes, findings_at_end, text_of, place_of, bytes_of, kept_at, count_pieces, early_codes, is_cut, is_open_kind}
use Rattle.gabc_text.specs.Events.{parts_at, CountsFit, events_by_point, token_events, lists_at, lists_end, owed_events, is_lone, with_first, with_last, kept_each, kept_lists_by, finding_events, kept_of, last_at, but_last, end_after, end_by_rest, after_tokens}
use Rattle.gabc_text.specs.machine.TextFacts.{facts_after}
use Rattle.gabc_text.specs.TextFacts.{no_facts}
use Rattle.gabc_text.specs.TextStage.{fresh_stage}
use Rattle.gabc_text.specs.machine.TextStage.{progress_after}
use Rattle.gabc_text.specs.witness.FactsPast.{facts_past, past, bytes_past}
use Rattle.gabc_text.specs.witness.EventsLeft.{parts_by, codes_by, kept_after, findings_there, codes_last, kept_by, each_kept, lists_kept, last_by, token_events_by, early_events_by, progress_at, read_at, ahead_at, owed_events_at, token_events_at, end_at_text, lists_past, lists_last, events_left, characters_left}
use Rattle.gabc_text.proofs.machine.FactsOfTokens.{facts_of, facts_more}
use Rattle.gabc_places.proofs.PlacesOfAText.{place_append}
use Rattle.gabc_text.proofs.tokens.CountsOfTexts.{bytes_append, up_is, later_is, place_small, kept_small, kept_at_small, pieces_small, some_bytes}
use Rattle.gabc_text.proofs.machine.ProgressAfterToken.{progress_of, spot_emitted}
use Rattle.gabc_text.proofs.machine.TokensOneAfterAnother.{onto}
use Rattle.gabc_text.proofs.machine.FactsPastTokens.{facts_step, progress_step, spot_after, after, read_none}
use Rattle.gabc_text.proofs.machine.TokensPastTheFirst.{lists_by, lists_from}
use Rattle.gabc_text.proofs.tokens.TokensSpellPrefix.{text_onto, whole_text}
use Rattle.gabc_text.proofs.machine.EventsStepByStep.{stepwise, stepwise_left}
use Rattle.gabc_text.proofs.machine.EventsLeftAreThoseAhead.{rest_by, left_by, rest_is, left_is}

-- ---- counts that do not reach their last value

past_small : (p : Place) (cs : List ℕ) → p.line + length cs < 2 ^ 64 → p.column + length cs < 2 ^ 64 → past p cs ≡ place_past p cs
past_small p [] a b = refl
past_small p (c ∷ cs) a b =
    let n = place_small p (c ∷ []) in
    ap (λ (q : Place). past q cs) (later_is p c (omega (arith, a)) (omega (arith, b))) ∙ past_small (next_place p c) cs (omega (arith, a, n.0)) (omega (arith, b, n.1))

each_small : (p : Place) (cs : List ℕ) → p.line + length cs < 2 ^ 64 → p.column + length cs < 2 ^ 64 → each_kept p cs ≡ kept_each p cs
each_small p [] a b = refl
each_small p (c ∷ cs) a b =
    let n = place_small p (c ∷ []) in
    ap (λ (q : Place). (out.Kept (record { c = c; place = p }) ∷ []) ∷ each_kept q cs) (later_is p c (omega (arith, a)) (omega (arith, b)))
    ∙ ap (λ (x : List (List TextEvent)). (out.Kept (record { c = c; place = p }) ∷ []) ∷ x) (each_small (next_place p c) cs (omega (arith, a, n.0)) (omega (arith, b, n.1)))

bytes_small : (n : ℕ) (cs : List ℕ) → n + bytes_of cs < 2 ^ 64 → bytes_past n cs ≡ n + bytes_of cs
bytes_small n [] h = omega arith
bytes_small n (c ∷ cs) h = grind (arith, bytes_small (n + len_utf8 c) cs (omega (arith, h)), up_is)

but_last_small : (c : ℕ) (cs : List ℕ) → bytes_of (but_last c cs) ≤ bytes_of (c ∷ cs)
but_last_small c [] = omega arith
but_last_small c (d ∷ cs) = omega (arith, but_last_small d cs)

lone_is_one : (c : ℕ) (cs : List ℕ) → is_text (codes "$") (c ∷ cs) ≡ true → cs ≡ []
lone_is_one c cs e = grind arith

-- ---- what a fresh stage has seen past some tokens

pub facts_fresh : (before : List Token) → facts_past no_facts before ≡ facts_of before
facts_fresh [] = refl
facts_fresh (k ∷ before) = facts_step no_facts before k ∙ ap (λ (x : TextFacts). facts_after x k.kind (effect k)) (facts_fresh before) ∙ facts_more before k

kept_same : (before : List Token) (k : Token) → kept_by (facts_of before) k.kind (spelling k) ≡ kept_at before k
kept_same before k = refl

module _ (at : Place) (full : List ℕ) (fits : CountsFit at full) where
  -- the tokens before, and this text, are the whole
  abbrev After : List Token → List ℕ → Type 0
  After before y = text_of before ++ y ≡ full

  -- where the stage stands past the tokens before
  abbrev here : List Token → Progress
  here before = progress_of at before (place_of at before) (bytes_of (kept_of before))

  rest_long : (before : List Token) (k : Token) (y : List ℕ) → After before (spelling k ++ y) → length full ≡ length (text_of before) + (length (spelling k) + length y)
  rest_long before k y e = omega (arith, ap (length {A = ℕ}) e, length-append (text_of before) (spelling k ++ y), length-append (spelling k) y)

  line_small : (before : List Token) (k : Token) (y : List ℕ) → After before (spelling k ++ y) → (place_of at before).line + length (spelling k) < 2 ^ 64
  line_small before k y e = let n = place_small at (text_of before) in omega (arith, rest_long before k y e, n.0, fits.line)

  column_small : (before : List Token) (k : Token) (y : List ℕ) → After before (spelling k ++ y) → (place_of at before).column + length (spelling k) < 2 ^ 64
  column_small before k y e = let n = place_small at (text_of before) in omega (arith, rest_long before k y e, n.1, fits.column)

  token_small : (before : List Token) (k : Token) (y : List ℕ) → After before (spelling k ++ y) → bytes_of (kept_of before) + bytes_of (spelling k) < 2 ^ 64
  token_small before k y e = grind (arith, kept_small, bytes_append)

  count_small : (before : List Token) (k : Token) (y : List ℕ) → After before (spelling k ++ y) → count_pieces before + 1 < 2 ^ 64
  count_small before k y e = omega (arith, pieces_small before, rest_long before k y e, fits.line)

  after_fresh : (before : List Token) (k : Token) (y : List ℕ) → After before (spelling k ++ y)
      → after (facts_of before) (here before) k.kind (spelling k) ≡ progress_of at before (place_of at (k ∷ before)) (bytes_of (kept_of (k ∷ before)))
  after_fresh before k y e =
      let next : past (place_of at before) (spelling k) ≡ place_of at (k ∷ before) =
      past_small (place_of at before) (spelling k) (line_small before k y e) (column_small before k y e) ∙ sym (place_append at (text_of before) (spelling k)) in
      let kept : bytes_past (bytes_of (kept_of before)) (kept_by (facts_of before) k.kind (spelling k)) ≡ bytes_of (kept_of (k ∷ before)) =
      ap (bytes_past (bytes_of (kept_of before))) (kept_same before k)
      ∙ bytes_small (bytes_of (kept_of before)) (kept_at before k) (omega (arith, token_small before k y e, kept_at_small before k))
      ∙ sym (bytes_append (kept_of before) (kept_at before k)) in
      rw (next, kept) refl

  shift : (before : List Token) (k : Token) (y : List ℕ) → After (k ∷ before) y → After before (spelling k ++ y)
  shift before k y e = sym (append_assoc (text_of before) (spelling k) y) ∙ e

  spot_fresh : (before : List Token) (y : List ℕ) → After before y → progress_at [] (fresh_stage at) before ≡ here before
  spot_fresh [] y e = refl
  spot_fresh (k ∷ before) y e =
      let f = shift before k y e in
      progress_step [] (fresh_stage at) before k
      ∙ ap (λ (x : TextFacts). spot_after x (progress_at [] (fresh_stage at) before) k (ahead_at [] (fresh_stage at) before k)) (facts_fresh before)
      ∙ ap (λ (x : Progress). spot_after (facts_of before) x k (ahead_at [] (fresh_stage at) before k)) (spot_fresh before (spelling k ++ y) f)
      ∙ ap (λ (x : List ℕ). spot_after (facts_of before) (here before) k (drop (length x) (spelling k))) (read_none (fresh_stage at) before)
      ∙ ap (λ (x : Progress). progress_after (facts_of before) x k.kind (effect k) x.next) (after_fresh before k y f)
      ∙ spot_emitted at before k (place_of at (k ∷ before)) (count_small before k y f) (effect k) (place_of at (k ∷ before)) refl refl

  -- ---- what a token gives

  last_fresh : (before : List Token) (k : Token) (y : List ℕ) → After before (spelling k ++ y) → last_by (here before) k (spelling k) ≡ last_at before k
  last_fresh before k y e = grind (arith, append-nil, lone_is_one, bytes_small, token_small, but_last_small, bytes_append)

  parts_fresh : (before : List Token) (k : Token) (y : List ℕ) → After before (spelling k ++ y)
      → parts_by (facts_of before) (here before) k.kind (last_at before k) (bytes_of (kept_of (k ∷ before))) (kind_of k) ≡ parts_at before k
  parts_fresh before k y e = grind (arith, up_is, token_small, some_bytes)

  codes_fresh : (before : List Token) (d : TokenKind) (so : TagEffect) → codes_by (facts_of before) d so ≡ late_codes before d so
  codes_fresh before d so = grind arith

  kept_after_fresh : (before : List Token) (k : Token) (y : List ℕ) → After before (spelling k ++ y) → kept_after (facts_of before) (here before) k.kind (spelling k) ≡ bytes_of (kept_of (k ∷ before))
  kept_after_fresh before k y e = ap (λ (x : Progress). x.kept) (after_fresh before k y e)

  whole_fresh : (before : List Token) (k : Token) (y : List ℕ) → After before (spelling k ++ y) → token_events_by (facts_of before) (here before) k (spelling k) ≡ token_events at before k
  whole_fresh before k y e = grind (arith, last_fresh, kept_after_fresh, parts_fresh, codes_fresh)

  whole_at_fresh : (before : List Token) (k : Token) (y : List ℕ) → After before (spelling k ++ y) → token_events_at [] (fresh_stage at) before k ≡ token_events at before k
  whole_at_fresh before k y e =
      ap (λ (x : TextFacts). token_events_by x (progress_at [] (fresh_stage at) before) k (ahead_at [] (fresh_stage at) before k)) (facts_fresh before)
      ∙ ap (λ (x : Progress). token_events_by (facts_of before) x k (ahead_at [] (fresh_stage at) before k)) (spot_fresh before (spelling k ++ y) e)
      ∙ ap (λ (x : List ℕ). token_events_by (facts_of before) (here before) k (drop (length x) (spelling k))) (read_none (fresh_stage at) before)
      ∙ whole_fresh before k y e

  owed_fresh : (before : List Token) (y : List ℕ) → After before y → owed_events_at [] (fresh_stage at) before ≡ owed_events at before
  owed_fresh [] y e = refl
  owed_fresh (k ∷ before) y e = ap (λ (x : List TextEvent). cond (is_lone k) x []) (whole_at_fresh before k y (shift before k y e))

  early_fresh : (before : List Token) (k : TokenKind) → early_events_by (facts_of before) (place_of at before) [] k ≡ finding_events at before (early_codes before k)
  early_fresh before k = grind arith

  kept_fresh : (before : List Token) (k : Token) (y : List ℕ) → After before (spelling k ++ y) → lists_kept (facts_of before) (place_of at before) k.kind (spelling k) ≡ kept_lists_by at before k.kind (spelling k)
  kept_fresh before k y e = grind (arith, each_small, line_small, column_small)

  lists_fresh : (before : List Token) (k : Token) (y : List ℕ) → After before (spelling k ++ y) → lists_past [] (fresh_stage at) before k ≡ lists_at at before k
  lists_fresh before k y e =
      ap (λ (x : TextFacts). lists_by x (progress_at [] (fresh_stage at) before) (read_at [] (fresh_stage at) before) (owed_events_at [] (fresh_stage at) before) k) (facts_fresh before)
      ∙ ap (λ (x : Progress). lists_by (facts_of before) x (read_at [] (fresh_stage at) before) (owed_events_at [] (fresh_stage at) before) k) (spot_fresh before (spelling k ++ y) e)
      ∙ ap (λ (x : List ℕ). lists_by (facts_of before) (here before) x (owed_events_at [] (fresh_stage at) before) k) (read_none (fresh_stage at) before)
      ∙ ap (λ (x : List TextEvent). lists_by (facts_of before) (here before) [] x k) (owed_fresh before (spelling k ++ y) e)
      ∙ ap (λ (x : List TextEvent). with_last (cond (is_lone k) [] x) (with_first (owed_events at before ++ early_events_by (facts_of before) (place_of at before) [] k.kind) (lists_kept (facts_of before) (place_of at before) k.kind (spelling k)))) (whole_fresh before k y e)
      ∙ ap (λ (x : List TextEvent). with_last (cond (is_lone k) [] (token_events at before k)) (with_first (owed_events at before ++ x) (lists_kept (facts_of before) (place_of at before) k.kind (spelling k)))) (early_fresh before k.kind)
      ∙ ap (λ (x : List (List TextEvent)). with_last (cond (is_lone k) [] (token_events at before k)) (with_first (owed_events at before ++ finding_events at before (early_codes before k.kind)) x)) (kept_fresh before k y e)

  -- ---- the end

  how_fresh : (before : List Token) (rest : List ℕ) → After before rest → end_at_text [] (fresh_stage at) before rest ≡ end_after at before rest
  how_fresh [] rest e = refl
  how_fresh (k ∷ before) rest e = ap (λ (x : Progress). cond (is_open_kind k.kind) (ending.Cut x.place) (end_by_rest rest)) (spot_fresh before (spelling k ++ rest) (shift before k rest e))

  findings_fresh : (before : List Token) → findings_there (place_of at before) (cond (is_cut before) [] (codes_last (facts_of before))) ≡ map out.Found (findings_at_end at before)
  findings_fresh before = grind arith

  end_fresh : (before : List Token) (rest : List ℕ) → After before rest → lists_last [] (fresh_stage at) before rest ≡ lists_end at before rest
  end_fresh before rest e = grind (arith, owed_fresh, facts_fresh, spot_fresh, how_fresh, findings_fresh)

  -- ---- the whole

  all_fresh : (ks before : List Token) (rest : List ℕ) → After (onto ks before) rest → lists_from [] (fresh_stage at) before ks rest ≡ along (lists_at at) before ks ++ lists_end at (onto ks before) rest
  all_fresh [] before rest e = end_fresh before rest e
  all_fresh (k ∷ ks) before rest e = grind (arith, append_assoc, text_onto, lists_fresh, all_fresh ks (k ∷ before) rest e)

-- what a fresh stage gives is what the text gives, and what it does not read is what follows the tokens
pub fresh_emits : (at : Place) (t : List ℕ) → CountsFit at t → (events_left (fresh_stage at) t ≡ events_by_point at t) × (characters_left (fresh_stage at) t ≡ after_tokens t)
fresh_emits at t fits = (rest_by (fresh_stage at) t ∙ all_fresh at t fits (tokens t) [] (after_tokens t) (whole_text t), left_by (fresh_stage at) t)

-- the same, step by step
pub fresh_stepwise : (at : Place) (t : List ℕ) → CountsFit at t → (stepwise (fresh_stage at) t ≡ events_by_point at t) × (stepwise_left (fresh_stage at) t ≡ after_tokens t)
fresh_stepwise at t fits =
    let r = fresh_emits at t fits in
    (sym (rest_is (fresh_stage at) t) ∙ r.0, sym (left_is (fresh_stage at) t) ∙ r.1)
