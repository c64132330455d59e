-- A text ends once.
use Rattle.std.proofs.Common.{◌≡◌, ℕ, List, [], ◌∷◌, ◌++◌, true, refl, sym, ap, ◌∙◌, append_assoc, length, length-append, drop, map, arith, ◌⊎◌}
use Rattle.gabc_places.specs.StageLaw.{concat_of}
use Rattle.gabc_places.specs.declared.place.Place.{Place}
use Rattle.gabc_places.specs.declared.place.Span.{Span}
use Rattle.gabc_places.specs.declared.code.Code.{Code}
use Rattle.gabc_text.specs.declared.text_event.TextEnd.{TextEnd}
use Rattle.gabc_text.specs.declared.text_event.TextPart.TheVariants as part
use Rattle.gabc_text.specs.declared.text_event.TextEvent.{TextEvent}
use Rattle.gabc_text.specs.declared.text_event.TextEvent.TheVariants as out
use Rattle.gabc_text.specs.Token.{Token, tokens}
use Rattle.gabc_text.specs.View.{along, place_of, found_at, findings_at_end, is_open_kind}
use Rattle.gabc_text.specs.Events.{lists_at, owed_events, events_at, end_events, token_events, finding_events, option_list_of, centre_of, end_after, end_by_rest, no_events_each}
use Rattle.gabc_text.specs.Ends.{EndsOnce, ends_in, Leaves}
use Rattle.gabc_text.specs.Printed.{text_of_tokens}
use Rattle.gabc_text.proofs.machine.TokensOneAfterAnother.{onto}
use Rattle.gabc_text.proofs.events.EventsByPointAreEvents.{along_joined}
use Rattle.gabc_text.proofs.tokens.TextIsTokensAndRest.{AllGo, parted}
use Rattle.gabc_text.proofs.tokens.TokensSpellPrefix.{left_of}
use Rattle.gabc_text.proofs.order.FindingsLieWithin.{many_lists, events_parted}

pub ends_more : (xs ys : List TextEvent) → ends_in (xs ++ ys) ≡ ends_in xs ++ ends_in ys
ends_more [] ys = refl
ends_more (out.Ended e ∷ xs) ys = ap (λ (x : List TextEnd). e ∷ x) (ends_more xs ys)
ends_more (_ ∷ xs) ys = ends_more xs ys

-- no end stands in either
neither : (xs ys : List TextEvent) → ends_in xs ≡ [] → ends_in ys ≡ [] → ends_in (xs ++ ys) ≡ []
neither xs ys h g = ends_more xs ys ∙ rw (h, g) refl

first_none : (xs ys : List TextEvent) → ends_in (xs ++ ys) ≡ [] → ends_in xs ≡ []
first_none xs ys h = by (ends_in xs) refl
  where
    by : (es : List TextEnd) → ends_in xs ≡ es → es ≡ []
    by [] e = refl
    by (x ∷ es) e = let f : (x ∷ es) ++ ends_in ys ≡ [] = ap (λ (z : List TextEnd). z ++ ends_in ys) (sym e) ∙ sym (ends_more xs ys) ∙ h in absurd (cc)

no_ends : {X : Type 0} (f : X → TextEvent) → ((x : X) → ends_in (f x ∷ []) ≡ []) → (xs : List X) → ends_in (map f xs) ≡ []
no_ends f h [] = refl
no_ends f h (x ∷ xs) = ends_more (f x ∷ []) (map f xs) ∙ ap (λ (y : List TextEnd). y ++ ends_in (map f xs)) (h x) ∙ no_ends f h xs

module _ (at : Place) where
  none_found : (before : List Token) (cs : List Code) → ends_in (finding_events at before cs) ≡ []
  none_found before cs = no_ends (λ (c : Code). out.Found (found_at (place_of at before) c)) (λ c. refl) cs

  none_whole : (before : List Token) (k : Token) → ends_in (token_events at before k) ≡ []
  none_whole before k = grind arith

  none_token : (before : List Token) (k : Token) → ends_in (events_at at before k) ≡ []
  none_token before k = grind (arith, neither, none_found, no_ends, none_whole)

  none_along : (ks before : List Token) → ends_in (along (events_at at) before ks) ≡ []
  none_along [] before = refl
  none_along (k ∷ ks) before = neither (events_at at before k) (along (events_at at) (k ∷ before) ks) (none_token before k) (none_along ks (k ∷ before))

  -- the lists of the tokens, and what the last of them owes
  none_listed : (ks : List Token) → ends_in (concat_of (along (lists_at at) [] ks) ++ owed_events at (onto ks [])) ≡ []
  none_listed ks = ap ends_in (along_joined at ks []) ∙ none_along ks []

  many_along : (ks before : List Token) (rest : List ℕ) → AllGo ks rest → length (along (lists_at at) before ks) ≡ length (text_of_tokens ks)
  many_along [] before rest g = refl
  many_along (k ∷ ks) before rest g = grind (arith, length-append, many_lists, many_along ks (k ∷ before) rest g.1)

  -- ---- what is left

  leaves_by : (rest : List ℕ) → (rest ≡ []) ⊎ (rest ≡ 40 ∷ drop 1 rest) → Leaves (end_by_rest rest) rest
  leaves_by rest h1 = grind arith

  -- the last token is open only if nothing follows
  leaves_end : (before : List Token) (rest : List ℕ) → ((k : Token) (bs : List Token) → before ≡ k ∷ bs → is_open_kind k.kind ≡ true → rest ≡ []) → Leaves (end_by_rest rest) rest → Leaves (end_after at before rest) rest
  leaves_end before rest h g = grind arith

  leaves_onto : (ks before : List Token) (rest : List ℕ) → AllGo ks rest → ((k : Token) (bs : List Token) → before ≡ k ∷ bs → is_open_kind k.kind ≡ true → text_of_tokens ks ++ rest ≡ []) → Leaves (end_after at (onto ks before) rest) rest
  leaves_onto [] before rest g h = leaves_end before rest h (leaves_by rest g)
  leaves_onto (k ∷ ks) before rest g h =
      leaves_onto ks (k ∷ before) rest g.1 (λ j bs e o. let same : k ≡ j = cc in g.0.is_last (ap (λ (x : Token). is_open_kind x.kind) same ∙ o))

  pub ends_once : (t : List ℕ) → EndsOnce at t
  ends_once t =
      let p = parted t in
      let ks = tokens t in
      let bs = onto ks [] in
      let found = map out.Found (findings_at_end at bs) in
      let centre = map (λ (s : Span). out.Part (part.Centre s)) (option_list_of (centre_of bs)) in
      let how = end_after at bs p.rest in
      let lists = along (lists_at at) [] ks in
      let last = owed_events at bs ++ (found ++ centre) in
      let ended : owed_events at bs ++ end_events at bs p.rest ≡ last ++ out.Ended how ∷ [] =
      sym (append_assoc (owed_events at bs) (found ++ centre) (out.Ended how ∷ []) ∙ ap (λ (x : List TextEvent). owed_events at bs ++ x) (append_assoc found centre (out.Ended how ∷ []))) in
      record {
        prefix = text_of_tokens ks;
        rest = p.rest;
        before = lists;
        last = last;
        how = how;
        text_is = p.parts;
        rest_is = sym (left_of t p);
        events_are = events_parted at t p ∙ ap (λ (x : List TextEvent). lists ++ x ∷ no_events_each p.rest) ended;
        one_each = many_along ks [] p.rest p.go;
        none_before = first_none (concat_of lists) (owed_events at bs) (none_listed ks);
        none_in_last = neither (owed_events at bs) (found ++ centre) (second_none (concat_of lists) (owed_events at bs) (none_listed ks))
            (neither found centre (no_ends out.Found (λ f. refl) (findings_at_end at bs)) (no_ends (λ (s : Span). out.Part (part.Centre s)) (λ s. refl) (option_list_of (centre_of bs))));
        leaves = leaves_onto ks [] p.rest p.go (λ k cs e o. absurd (cc));
      }
    where
      second_none : (xs ys : List TextEvent) → ends_in (xs ++ ys) ≡ [] → ends_in ys ≡ []
      second_none xs ys h = ap (λ (z : List TextEnd). z ++ ends_in ys) (sym (first_none xs ys h)) ∙ sym (ends_more xs ys) ∙ h
