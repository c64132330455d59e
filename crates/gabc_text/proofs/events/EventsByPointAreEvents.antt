-- The lists of a text's events, joined, are its events in order.
use Rattle.std.proofs.Common.{arith, ◌≡◌, ℕ, List, [], ◌∷◌, ◌++◌, Bool, cond, refl, sym, ap, ◌∙◌, append_assoc, append-nil, map}
use Rattle.std.proofs.lemmas.List.Concat.{flat_map-append}
use Rattle.gabc_places.specs.StageLaw.{concat_of}
use Rattle.gabc_places.specs.Place.{next_place, placed_characters_from}
use Rattle.gabc_places.specs.declared.place.Place.{Place}
use Rattle.gabc_places.specs.declared.place.Char.{Char}
use Rattle.gabc_text.specs.declared.text_event.TextEvent.{TextEvent}
use Rattle.gabc_text.specs.declared.text_event.TextEvent.TheVariants as out
use Rattle.gabc_text.specs.Token.{Token, spelling, tokens}
use Rattle.gabc_text.specs.View.{along, follows_space, place_of}
use Rattle.gabc_text.specs.Events.{events_of, events_by_point, events_at, end_events, owed_events, lists_at, lists_end, with_first, with_last, kept_each, no_events_each, after_tokens}
use Rattle.gabc_text.proofs.machine.TokensOneAfterAnother.{onto}

pub joined_append : (a b : List (List TextEvent)) → concat_of (a ++ b) ≡ concat_of a ++ concat_of b
joined_append a b = flat_map-append (λ xs. xs) a b

pub joined_nothing : (t : List ℕ) → concat_of (no_events_each t) ≡ []
joined_nothing [] = refl
joined_nothing (c ∷ t) = joined_nothing t

joined_kept : (p : Place) (t : List ℕ) → concat_of (kept_each p t) ≡ map (λ (c : Char). out.Kept c) (placed_characters_from p t)
joined_kept p [] = refl
joined_kept p (c ∷ t) = ap (λ (x : List TextEvent). out.Kept (record { c = c; place = p }) ∷ x) (joined_kept (next_place p c) t)

joined_last : (zs xs : List TextEvent) (lists : List (List TextEvent)) → concat_of (with_last zs (xs ∷ lists)) ≡ concat_of (xs ∷ lists) ++ zs
joined_last zs xs [] = append-nil (xs ++ zs) ∙ ap (λ (x : List TextEvent). x ++ zs) (sym (append-nil xs))
joined_last zs xs (ys ∷ lists) = ap (λ (x : List TextEvent). xs ++ x) (joined_last zs ys lists) ∙ sym (append_assoc xs (concat_of (ys ∷ lists)) zs)

module _ (at : Place) where
  module _ (before : List Token) (k : Token) where
    -- the lists of a token are one or more
    joined_token : (zs xs : List TextEvent) (b : Bool) (d : Bool) → concat_of (with_last zs (with_first xs (cond b (no_events_each (spelling k)) (cond d (cond (follows_space before) [] (out.Kept (record { c = 32; place = place_of at before }) ∷ []) ∷ []) (kept_each (place_of at before) (spelling k))))))
        ≡ xs ++ (map (λ (c : Char). out.Kept c) (cond b [] (cond d (cond (follows_space before) [] (record { c = 32; place = place_of at before } ∷ [])) (placed_characters_from (place_of at before) (spelling k)))) ++ zs)
    joined_token zs xs b d = grind (arith, joined_last, joined_nothing, append-nil, append_assoc, joined_kept)

    parted : (b : Bool) (ws : List TextEvent) → cond b [] ws ++ cond b ws [] ≡ ws
    parted b ws = grind (arith, append-nil)

    five : (o e c n w : List TextEvent) → ((o ++ e) ++ (c ++ n)) ++ w ≡ o ++ (e ++ (c ++ (n ++ w)))
    five o e c n w = simp append_assoc

    lists_joined : concat_of (lists_at at before k) ++ owed_events at (k ∷ before) ≡ owed_events at before ++ events_at at before k
    lists_joined = grind (arith, joined_token, five, parted)

  pub along_joined : (ks before : List Token) → concat_of (along (lists_at at) before ks) ++ owed_events at (onto ks before) ≡ owed_events at before ++ along (events_at at) before ks
  along_joined [] before = sym (append-nil (owed_events at before))
  along_joined (k ∷ ks) before =
      ap (λ (x : List TextEvent). x ++ owed_events at (onto ks (k ∷ before))) (joined_append (lists_at at before k) (along (lists_at at) (k ∷ before) ks))
      ∙ append_assoc (concat_of (lists_at at before k)) (concat_of (along (lists_at at) (k ∷ before) ks)) (owed_events at (onto ks (k ∷ before)))
      ∙ ap (λ (x : List TextEvent). concat_of (lists_at at before k) ++ x) (along_joined ks (k ∷ before))
      ∙ sym (append_assoc (concat_of (lists_at at before k)) (owed_events at (k ∷ before)) (along (events_at at) (k ∷ before) ks))
      ∙ ap (λ (x : List TextEvent). x ++ along (events_at at) (k ∷ before) ks) (lists_joined before k)
      ∙ append_assoc (owed_events at before) (events_at at before k) (along (events_at at) (k ∷ before) ks)

  pub points_joined : (t : List ℕ) → concat_of (events_by_point at t) ≡ events_of at t
  points_joined t =
      let bs = onto (tokens t) [] in
      joined_append (along (lists_at at) [] (tokens t)) (lists_end at bs (after_tokens t))
      ∙ ap (λ (x : List TextEvent). concat_of (along (lists_at at) [] (tokens t)) ++ ((owed_events at bs ++ end_events at bs (after_tokens t)) ++ x)) (joined_nothing (after_tokens t))
      ∙ ap (λ (x : List TextEvent). concat_of (along (lists_at at) [] (tokens t)) ++ x) (append-nil (owed_events at bs ++ end_events at bs (after_tokens t)))
      ∙ sym (append_assoc (concat_of (along (lists_at at) [] (tokens t))) (owed_events at bs) (end_events at bs (after_tokens t)))
      ∙ ap (λ (x : List TextEvent). x ++ end_events at bs (after_tokens t)) (along_joined (tokens t) [])
