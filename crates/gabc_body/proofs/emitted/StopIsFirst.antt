-- The stop is the first point at which a limit is passed.
use Rattle.std.proofs.Common.{◌≡◌, ℕ, zero, suc, ◌+◌, ◌<◌, List, [], ◌∷◌, length, take, Option, Some, None, refl, sym, ap, ◌∙◌, append-nil, arith, ◌⊎◌, inl, inr}
use Rattle.gabc_body.proofs.emitted.EventsOfSyllableParts.{onto_append}
use Rattle.gabc_places.specs.declared.code.Code.{Code}
use Rattle.gabc_places.specs.declared.limits.Limits.{Limits}
use Rattle.gabc_places.specs.declared.place.Char.{Char}
use Rattle.gabc_places.specs.StageLaw.{concat_of}
use Rattle.gabc_body.specs.declared.events.BodyEvent.{BodyEvent}
use Rattle.gabc_body.specs.Body.{events_onto, code_at, events_to_stop, stopped_events}
use Rattle.gabc_body.specs.Stops.{events_in_points, StopsAt, NeverStops}

module _ (limits : Limits) (head : ℕ) where
  abbrev Stop : List BodyEvent → List Char → List (List BodyEvent) → Type 0
  Stop first xs lists = NeverStops limits head first xs lists (events_to_stop limits head first xs lists) ⊎ StopsAt limits head first xs lists (events_to_stop limits head first xs lists)

  points_more : (first now : List BodyEvent) (lists : List (List BodyEvent)) (n : ℕ) → events_in_points first (now ∷ lists) (suc n) ≡ events_in_points (events_onto now first) lists n
  points_more first now lists n = onto_append now (concat_of (take n lists)) first

  pub stop_is_first : (first : List BodyEvent) (xs : List Char) (lists : List (List BodyEvent)) → length lists ≡ length xs + 1 → Stop first xs lists
  stop_is_first first [] lists e = inl (record { none = λ n h. absurd (omega (arith, h)); before = refl; last = refl; fault = refl })
  stop_is_first first (x ∷ xs) [] e = absurd (let f : 0 ≡ length (x ∷ xs) + 1 = e in omega (arith, f))
  stop_is_first first (x ∷ xs) (now ∷ lists) e = by (code_at limits head (events_onto now first)) refl (stop_is_first (events_onto now first) xs lists (omega (arith, e)))
    where
      here : (o : Option Code) → code_at limits head (events_onto now first) ≡ o → code_at limits head (events_in_points first (now ∷ lists) 1) ≡ o
      here o f = ap (λ ts. code_at limits head (events_onto ts first)) (append-nil now) ∙ f

      each : (m : ℕ) → code_at limits head (events_onto now first) ≡ None → ((n : ℕ) → n < m → code_at limits head (events_in_points (events_onto now first) lists (suc n)) ≡ None)
          → (n : ℕ) → n < suc m → code_at limits head (events_in_points first (now ∷ lists) (suc n)) ≡ None
      each m f g zero h = here None f
      each m f g (suc n) h = ap (code_at limits head) (points_more first now lists (suc n)) ∙ g n (omega (arith, h))

      by : (o : Option Code) → code_at limits head (events_onto now first) ≡ o → Stop (events_onto now first) xs lists
          → NeverStops limits head first (x ∷ xs) (now ∷ lists) (stopped_events o x.place first (events_to_stop limits head (events_onto now first) xs lists))
          ⊎ StopsAt limits head first (x ∷ xs) (now ∷ lists) (stopped_events o x.place first (events_to_stop limits head (events_onto now first) xs lists))
      by (Some code) f s = inr (record {
        prefix = [];
        here = x;
        rest = xs;
        code = code;
        all = refl;
        passed = here (Some code) f;
        none_earlier = λ n h. absurd (omega (arith, h));
        before = refl;
        fault = refl;
      })
      by None f (inl s) = inl (record {
        none = each (length xs) f s.none;
        before = s.before ∙ sym (points_more first now lists (length xs));
        last = s.last;
        fault = s.fault;
      })
      by None f (inr s) = inr (record {
        prefix = x ∷ s.prefix;
        here = s.here;
        rest = s.rest;
        code = s.code;
        all = ap (λ ys. x ∷ ys) s.all;
        passed = ap (code_at limits head) (points_more first now lists (suc (length s.prefix))) ∙ s.passed;
        none_earlier = each (length s.prefix) f s.none_earlier;
        before = s.before ∙ sym (points_more first now lists (length s.prefix));
        fault = s.fault;
      })
