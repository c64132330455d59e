-- After an output that ends a stage, several calls give nothing, as each of them does.
use Rattle.std.proofs.Common.{ℕ, List, [], ◌∷◌, ◌++◌, ◌≡◌, ◌||◌, ◌⊎◌, inl, inr, Bool, true, false, refl, ap, sym, ◌∙◌, append_assoc, arith}
use Rattle.std.proofs.lemmas.List.{append_cancel_left}
use Rattle.std.proofs.Math.Bool.{or-true}
use Rattle.std.specs.List.{list_any}
use Rattle.gabc_places.specs.BoundedList.{BoundedList, extended_by}
use Rattle.gabc_places.specs.StageLaw.{concat_of, Pushes, Finishes, EmitsNothing, StopsAtEnd}
use Rattle.gabc_places.specs.machine.StageLaw.{PushesAll}

-- an element of a list that is joined of two lies in the first or in the second
pub record InFirst {T : Type 0} (a c before later : List T) (x : T) : Type 0 where
  pub left : List T
  pub first_is : a ≡ before ++ x ∷ left
  pub after_is : later ≡ left ++ c

pub record InSecond {T : Type 0} (a c before later : List T) (x : T) : Type 0 where
  pub left : List T
  pub second_is : c ≡ left ++ x ∷ later

pub where_it_lies : {T : Type 0} (a c before later : List T) (x : T) → a ++ c ≡ before ++ x ∷ later → InFirst a c before later x ⊎ InSecond a c before later x
where_it_lies [] c before later x e = inr (record { left = before; second_is = e })
where_it_lies (y ∷ a) c [] later x e = inl (record { left = a; first_is = cc; after_is = cc })
where_it_lies (y ∷ a) c (z ∷ before) later x e = grind (arith, where_it_lies a c before later x (cc))

pub both_empty : {T : Type 0} (a b : List T) → a ++ b ≡ [] → (a ≡ []) × (b ≡ [])
both_empty [] b e = (refl, e)
both_empty (x ∷ a) b e = absurd (cc)

items_of : {T : Type 0} (r t : BoundedList T) → r ≡ t → r.items ≡ t.items
items_of r t e = ap (λ h. h.items) e

-- a call, and then a call that adds nothing and leaves a stage that gives nothing where the first did
stops-both : {I O : Type 0} (ends : O → Bool) (mid after : List I → List (List O)) (r s t : BoundedList O) (a b : List O)
    → s ≡ extended_by r a → t ≡ extended_by s b → (EmitsNothing mid → (b ≡ []) × EmitsNothing after)
    → StopsAtEnd ends mid r s → StopsAtEnd ends after s t → StopsAtEnd ends after r t
stops-both {I} {O} ends mid after r s t a b se te over first second before later x e is_end = by (where_it_lies a b before later x split)
  where
    split : a ++ b ≡ before ++ x ∷ later
    split = append_cancel_left r.items (a ++ b) (before ++ x ∷ later) (sym (append_assoc r.items a b) ∙ sym (items_of _ _ te ∙ ap (λ (h : BoundedList O). h.items ++ b) se) ∙ items_of _ _ e)

    by : InFirst a b before later x ⊎ InSecond a b before later x → (later ≡ []) × EmitsNothing after
    by (inl i) =
        let k = first before i.left x (se ∙ ap (extended_by r) i.first_is) is_end in
        let o = over k.1 in
        (i.after_is ∙ ap (λ v. v ++ b) k.0 ∙ o.0, o.1)
    by (inr i) = second i.left later x (te ∙ ap (extended_by s) i.second_is) is_end

-- a stage that gives nothing adds nothing at a push, and gives nothing after it
nothing-pushed : {I O : Type 0} (mid after : List I → List (List O)) (x : I) (most : ℕ) (s t : BoundedList O) (g : Pushes mid after x most s t)
    → EmitsNothing mid → (g.events ≡ []) × EmitsNothing after
nothing-pushed mid after x most s t g none = (
  (both_empty g.events (concat_of (after [])) (sym (ap concat_of (g.law [])) ∙ none (x ∷ []))).0,
  λ xs. (both_empty g.events (concat_of (after xs)) (sym (ap concat_of (g.law xs)) ∙ none (x ∷ xs))).1,
)

-- and at its end
nothing-ended : {I O : Type 0} (mid after : List I → List (List O)) (most : ℕ) (s t : BoundedList O) (g : Finishes mid most s t)
    → EmitsNothing after → EmitsNothing mid → (g.events ≡ []) × EmitsNothing after
nothing-ended mid after most s t g over none = ((both_empty g.events [] (sym (ap concat_of g.law) ∙ none [])).0, over)

-- pushes of all of some inputs, and then a push
pub stops-pushed : {I O : Type 0} {before mid after : List I → List (List O)} {xs : List I} {x : I} {most more : ℕ} {r s t : BoundedList O} (ends : O → Bool)
    → PushesAll before mid xs most r s → Pushes mid after x more s t
    → StopsAtEnd ends mid r s → StopsAtEnd ends after s t → StopsAtEnd ends after r t
stops-pushed {mid = mid} {after = after} {x = x} {more = more} {r = r} {s = s} {t = t} ends all g first second =
    stops-both ends mid after r s t (concat_of all.events) g.events all.out g.out (nothing-pushed mid after x more s t g) first second

-- pushes of all of some inputs, and then the end
pub stops-ended : {I O : Type 0} {before mid : List I → List (List O)} {xs : List I} {most more : ℕ} {r s t : BoundedList O} (ends : O → Bool) (after : List I → List (List O))
    → PushesAll before mid xs most r s → Finishes mid more s t → EmitsNothing after
    → StopsAtEnd ends mid r s → StopsAtEnd ends after s t → StopsAtEnd ends after r t
stops-ended {mid = mid} {more = more} {r = r} {s = s} {t = t} ends after all g over first second =
    stops-both ends mid after r s t (concat_of all.events) g.events all.out g.out (nothing-ended mid after more s t g over) first second

-- ---- for the proof of a stage: what a call gives has no end, or has it last

has_end : {O : Type 0} (ends : O → Bool) (before later : List O) (x : O) → ends x ≡ true → list_any ends (before ++ x ∷ later) ≡ true
has_end ends [] later x e = ap (λ b. b || list_any ends later) e
has_end ends (y ∷ before) later x e = ap (λ b. ends y || b) (has_end ends before later x e) ∙ or-true (ends y)

only_one : {O : Type 0} (before later : List O) (x y : O) → x ∷ [] ≡ before ++ y ∷ later → later ≡ []
only_one [] later x y e = cc
only_one (z ∷ []) later x y e = absurd (cc)
only_one (z ∷ w ∷ before) later x y e = absurd (cc)

events_is : {O : Type 0} (old new : BoundedList O) (xs ys : List O) → new ≡ extended_by old xs → new ≡ extended_by old ys → xs ≡ ys
events_is old new xs ys e h = append_cancel_left old.items xs ys (items_of _ _ (sym e ∙ h))

-- a call that gives no end
pub stops-endless : {I O : Type 0} (ends : O → Bool) (after : List I → List (List O)) (old new : BoundedList O) (events : List O)
    → new ≡ extended_by old events → list_any ends events ≡ false → StopsAtEnd ends after old new
stops-endless ends after old new events e none before later x h is_end = grind (arith, events_is, has_end)

-- a call that gives an end last, and leaves a stage that gives nothing
pub stops-last : {I O : Type 0} (ends : O → Bool) (after : List I → List (List O)) (old new : BoundedList O) (xs : List O) (last : O)
    → new ≡ extended_by old (xs ++ last ∷ []) → list_any ends xs ≡ false → EmitsNothing after → StopsAtEnd ends after old new
stops-last ends after old new xs last e none over before later x h is_end =
    by (where_it_lies xs (last ∷ []) before later x (events_is old new (xs ++ last ∷ []) (before ++ x ∷ later) e h))
  where
    by : InFirst xs (last ∷ []) before later x ⊎ InSecond xs (last ∷ []) before later x → (later ≡ []) × EmitsNothing after
    by (inl i) = let k : list_any ends xs ≡ true = ap (list_any ends) i.first_is ∙ has_end ends before i.left x is_end in absurd (cc)
    by (inr i) = (only_one i.left later last x i.second_is, over)
