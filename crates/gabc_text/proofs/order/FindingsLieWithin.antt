-- What is emitted of a text by a point is found no later than there.
use Rattle.std.proofs.Common.{◌≡◌, ℕ, suc, ◌+◌, List, [], ◌∷◌, ◌++◌, true, refl, sym, ap, subst, append_assoc, length, take, map, arith}
use Rattle.gabc_places.specs.StageLaw.{concat_of}
use Rattle.gabc_places.specs.Place.{next_place, place_past}
use Rattle.gabc_places.specs.Findings.{IsUpTo, LieBetween}
use Rattle.gabc_places.specs.declared.place.Place.{Place}
use Rattle.gabc_places.specs.declared.code.Code.{Code}
use Rattle.gabc_places.specs.declared.code.Finding.{Finding}
use Rattle.gabc_text.specs.declared.text_event.TextPart.{TextPart}
use Rattle.gabc_text.specs.declared.text_event.TextEvent.{TextEvent}
use Rattle.gabc_text.specs.declared.text_event.TextEvent.TheVariants as out
use Rattle.gabc_text.specs.Token.{Token, spelling, tokens}
use Rattle.gabc_text.specs.View.{along, is_space, place_of, text_of, found_at, findings_at_end, early_codes}
use Rattle.gabc_text.specs.Events.{events_by_point, end_events, lists_at, lists_end, with_first, with_last, no_events_each, kept_each, kept_lists_by, owed_events, last_char_events, early_events, token_events, finding_events}
use Rattle.gabc_text.specs.BuiltText.{found_in}
use Rattle.gabc_text.specs.Printed.{text_of_tokens}
use Rattle.gabc_places.proofs.PlacesOfAText.{place_append}
use Rattle.gabc_places.proofs.PlacesInOrder.{up_to_self, up_to_next, up_to_past, lie_wider, lie_append}
use Rattle.gabc_text.proofs.machine.TokensOneAfterAnother.{onto}
use Rattle.gabc_text.proofs.tokens.TextIsTokensAndRest.{Goes, AllGo, Parted, parted}
use Rattle.gabc_text.proofs.tokens.TokensSpellPrefix.{left_of}

-- ---- the order of places

up_token : (at : Place) (before : List Token) (k : Token) → IsUpTo (place_of at before) (place_of at (k ∷ before))
up_token at before k = subst (IsUpTo (place_of at before)) (sym (place_append at (text_of before) (spelling k))) (up_to_past (place_of at before) (spelling k))

-- ---- lists of findings

pub found_more : (xs ys : List TextEvent) → found_in (xs ++ ys) ≡ found_in xs ++ found_in ys
found_more [] ys = refl
found_more (out.Kept c ∷ xs) ys = found_more xs ys
found_more (out.Part p ∷ xs) ys = found_more xs ys
found_more (out.Found f ∷ xs) ys = ap (λ (x : List Finding). f ∷ x) (found_more xs ys)
found_more (out.Ended e ∷ xs) ys = found_more xs ys

no_parts : (ps : List TextPart) → found_in (map (λ (p : TextPart). out.Part p) ps) ≡ []
no_parts [] = refl
no_parts (p ∷ ps) = no_parts ps

-- ---- lists by the characters of a text

module _ (at : Place) where
  -- what is emitted with each character of a text that begins at p is found no later than the character
  abbrev Walk : Place → List ℕ → List (List TextEvent) → Type 0
  Walk p t [] = Unit {0}
  Walk p [] (xs ∷ lists) = LieBetween at p (found_in xs) × Walk p [] lists
  Walk p (c ∷ t) (xs ∷ lists) = LieBetween at p (found_in xs) × Walk (next_place p c) t lists

  both : (p : Place) (xs ys : List TextEvent) → LieBetween at p (found_in xs) → LieBetween at p (found_in ys) → LieBetween at p (found_in (xs ++ ys))
  both p xs ys h g = rw (found_more xs ys) (lie_append at p (found_in xs) (found_in ys) h g)

  -- what is emitted through the character after the prefix
  walked : (p : Place) (prefix rest : List ℕ) (lists : List (List TextEvent)) → Walk p (prefix ++ rest) lists → LieBetween at (place_past p prefix) (found_in (concat_of (take (suc (length prefix)) lists)))
  walked p prefix rest [] h = tt
  walked p [] [] (xs ∷ lists) h = both p xs [] h.0 tt
  walked p [] (c ∷ rest) (xs ∷ lists) h = both p xs [] h.0 tt
  walked p (c ∷ prefix) rest (xs ∷ lists) h =
      both (place_past (next_place p c) prefix) xs (concat_of (take (suc (length prefix)) lists))
      (lie_wider at p (place_past (next_place p c) prefix) (found_in xs) (up_to_past p (c ∷ prefix)) h.0)
      (walked (next_place p c) prefix rest lists h.1)

  walk_nothing : (p : Place) (t u : List ℕ) → Walk p t (no_events_each u)
  walk_nothing p t [] = tt
  walk_nothing p [] (d ∷ u) = (tt, walk_nothing p [] u)
  walk_nothing p (c ∷ t) (d ∷ u) = (tt, walk_nothing (next_place p c) t u)

  walk_append : (p : Place) (s t : List ℕ) (ls ms : List (List TextEvent)) → length ls ≡ length s → Walk p s ls → Walk (place_past p s) t ms → Walk p (s ++ t) (ls ++ ms)
  walk_append p [] t [] ms e h g = g
  walk_append p [] t (xs ∷ ls) ms e h g = absurd (omega arith)
  walk_append p (c ∷ s) t [] ms e h g = absurd (omega arith)
  walk_append p (c ∷ s) t (xs ∷ ls) ms e h g = (h.0, walk_append (next_place p c) s t ls ms (omega arith) h.1 g)

  walk_first : (p : Place) (s : List ℕ) (xs : List TextEvent) (ls : List (List TextEvent)) → LieBetween at p (found_in xs) → Walk p s ls → Walk p s (with_first xs ls)
  walk_first p s xs ls h g = grind (arith, both)

  walk_last : (p : Place) (s : List ℕ) (xs : List TextEvent) (ls : List (List TextEvent)) → LieBetween at p (found_in xs) → Walk p s ls → Walk p s (with_last xs ls)
  walk_last p s xs [] h g = tt
  walk_last p [] xs (ys ∷ []) h g = (both p ys xs g.0 h, tt)
  walk_last p (c ∷ s) xs (ys ∷ []) h g = (both p ys xs g.0 h, tt)
  walk_last p [] xs (ys ∷ zs ∷ ls) h g = (g.0, walk_last p [] xs (zs ∷ ls) h g.1)
  walk_last p (c ∷ s) xs (ys ∷ zs ∷ ls) h g =
      (g.0, walk_last (next_place p c) s xs (zs ∷ ls) (lie_wider at p (next_place p c) (found_in xs) (up_to_next p c) h) g.1)

  walk_kept : (p q : Place) (s t : List ℕ) → Walk p s (kept_each q t)
  walk_kept p q s [] = tt
  walk_kept p q [] (d ∷ t) = (tt, walk_kept p (next_place q d) [] t)
  walk_kept p q (c ∷ s) (d ∷ t) = (tt, walk_kept (next_place p c) (next_place q d) s t)

  walk_base : (before : List Token) (k : Token) → Walk (place_of at before) (spelling k) (kept_lists_by at before k.kind (spelling k))
  walk_base before k = grind (arith, walk_nothing, walk_kept)

  -- ---- how many lists a token has

  many_first : (xs : List TextEvent) (ls : List (List TextEvent)) → length (with_first xs ls) ≡ length ls
  many_first xs ls = grind arith

  many_last : (xs : List TextEvent) (ls : List (List TextEvent)) → length (with_last xs ls) ≡ length ls
  many_last xs (ys ∷ zs ∷ ls) = ap suc (many_last xs (zs ∷ ls))
  many_last xs _ = refl

  many_nothing : (s : List ℕ) → length (no_events_each s) ≡ length s
  many_nothing [] = refl
  many_nothing (c ∷ s) = ap suc (many_nothing s)

  many_kept : (p : Place) (s : List ℕ) → length (kept_each p s) ≡ length s
  many_kept p [] = refl
  many_kept p (c ∷ s) = ap suc (many_kept (next_place p c) s)

  many_base : (before : List Token) (k : Token) → (is_space k.kind ≡ true → k.more ≡ []) → length (kept_lists_by at before k.kind (spelling k)) ≡ length (spelling k)
  many_base before k h = grind (arith, many_nothing, many_kept)

  pub many_lists : (before : List Token) (k : Token) (u : List ℕ) → Goes k u → length (lists_at at before k) ≡ length (spelling k)
  many_lists before k u g = grind (arith, many_last, many_first, many_base)

  -- ---- what a token emits

  from_here : (before : List Token) → IsUpTo at (place_of at before)
  from_here before = up_to_past at (text_of before)

  lie_codes : (before : List Token) (cs : List Code) → LieBetween at (place_of at before) (found_in (finding_events at before cs))
  lie_codes before [] = tt
  lie_codes before (c ∷ cs) = ((from_here before, up_to_self (place_of at before)), lie_codes before cs)

  lie_whole : (before : List Token) (k : Token) → LieBetween at (place_of at before) (found_in (token_events at before k))
  lie_whole before k = grind (arith, both, no_parts, lie_codes)

  lie_now : (before : List Token) (k : Token) → LieBetween at (place_of at before) (found_in (last_char_events at before k))
  lie_now before k = grind (arith, lie_whole)

  lie_owed : (before : List Token) → LieBetween at (place_of at before) (found_in (owed_events at before))
  lie_owed before = grind (arith, lie_wider, up_token, lie_whole)

  walk_token : (before : List Token) (k : Token) → Walk (place_of at before) (spelling k) (lists_at at before k)
  walk_token before k =
      walk_last (place_of at before) (spelling k) (last_char_events at before k) (with_first (owed_events at before ++ early_events at before k.kind) (kept_lists_by at before k.kind (spelling k)))
      (lie_now before k)
      (walk_first (place_of at before) (spelling k) (owed_events at before ++ early_events at before k.kind) (kept_lists_by at before k.kind (spelling k))
      (both (place_of at before) (owed_events at before) (early_events at before k.kind) (lie_owed before) (lie_codes before (early_codes before k.kind)))
      (walk_base before k))

  -- ---- the whole

  lie_map : (before : List Token) (cs : List Code) → LieBetween at (place_of at before) (map (found_at (place_of at before)) cs)
  lie_map before [] = tt
  lie_map before (c ∷ cs) = ((from_here before, up_to_self (place_of at before)), lie_map before cs)

  lie_end : (before : List Token) → LieBetween at (place_of at before) (findings_at_end at before)
  lie_end before = grind (arith, lie_map)

  pub end_found : (before : List Token) (rest : List ℕ) → found_in (end_events at before rest) ≡ findings_at_end at before
  end_found before rest = grind arith

  walk_end : (p : Place) (xs : List TextEvent) (t : List ℕ) → LieBetween at p (found_in xs) → Walk p t (xs ∷ no_events_each t)
  walk_end p xs t h = grind (arith, walk_nothing)

  walk_along : (ks before : List Token) (rest : List ℕ) → AllGo ks rest → Walk (place_of at before) (text_of_tokens ks ++ rest) (along (lists_at at) before ks ++ lists_end at (onto ks before) rest)
  walk_along [] before rest g =
      walk_end (place_of at before) (owed_events at before ++ end_events at before rest) rest
      (both (place_of at before) (owed_events at before) (end_events at before rest) (lie_owed before) (rw (end_found before rest) (lie_end before)))
  walk_along (k ∷ ks) before rest g =
      let more = along (lists_at at) (k ∷ before) ks ++ lists_end at (onto ks (k ∷ before)) rest in
      subst (λ (t : List ℕ). Walk (place_of at before) t ((lists_at at before k ++ along (lists_at at) (k ∷ before) ks) ++ lists_end at (onto ks (k ∷ before)) rest))
      (sym (append_assoc (spelling k) (text_of_tokens ks) rest))
      (subst (Walk (place_of at before) (spelling k ++ (text_of_tokens ks ++ rest))) (sym (append_assoc (lists_at at before k) (along (lists_at at) (k ∷ before) ks) (lists_end at (onto ks (k ∷ before)) rest)))
      (walk_append (place_of at before) (spelling k) (text_of_tokens ks ++ rest) (lists_at at before k) more
      (many_lists before k (text_of_tokens ks ++ rest) g.0) (walk_token before k)
      (subst (λ (p : Place). Walk p (text_of_tokens ks ++ rest) more) (place_append at (text_of before) (spelling k)) (walk_along ks (k ∷ before) rest g.1))))

-- the text as it is parted, and what it gives
pub events_parted : (at : Place) (t : List ℕ) (p : Parted t (tokens t)) → events_by_point at t ≡ along (lists_at at) [] (tokens t) ++ lists_end at (onto (tokens t) []) p.rest
events_parted at t p = ap (λ (x : List ℕ). along (lists_at at) [] (tokens t) ++ lists_end at (onto (tokens t) []) x) (left_of t p)

pub found_within : (at : Place) (prefix rest : List ℕ) → LieBetween at (place_past at prefix) (found_in (concat_of (take (length prefix + 1) (events_by_point at (prefix ++ rest)))))
found_within at prefix rest =
    let t = prefix ++ rest in
    let p = parted t in
    let w = walk_along at (tokens t) [] p.rest p.go in
    let v = subst (λ (s : List ℕ). Walk at at s (along (lists_at at) [] (tokens t) ++ lists_end at (onto (tokens t) []) p.rest)) (sym p.parts) w in
    let h = subst (Walk at at t) (sym (events_parted at t p)) v in
    let one : suc (length prefix) ≡ length prefix + 1 = omega arith in
    subst (λ (n : ℕ). LieBetween at (place_past at prefix) (found_in (concat_of (take n (events_by_point at t))))) one
    (walked at at prefix rest (events_by_point at t) h)
