-- What a stage has taken of a text, a character at a time.
use Rattle.std.proofs.Common.{◌≡◌, ◌⊎◌, inl, inr, Result, OnErr, ℕ, List, [], ◌∷◌, ◌++◌, refl, sym, ap, ◌∙◌, append_assoc, arith}
use Rattle.gabc_places.specs.declared.place.Char.{Char}
use Rattle.gabc_places.specs.declared.place.Place.{Place}
use Rattle.gabc_places.specs.BoundedList.{BoundedList}
use Rattle.gabc_places.specs.GivenUp.{HasTaken}
use Rattle.gabc_places.specs.Place.{next_place, placed_characters_from}
use Rattle.gabc_places.specs.StageLaw.{Pushes, EmitsNothing}

-- with those left
abbrev pub TakenTo : {O : Type 0} → (List Char → List (List O)) → (List Char → List (List O)) → List Char → List Char → Type 0
TakenTo before after inputs left = (h : HasTaken before after inputs) × (h.left ≡ left)

pub none_taken : {O : Type 0} (before : List Char → List (List O)) (inputs : List Char) → TakenTo before before inputs inputs
none_taken before inputs = (record { taken = []; left = inputs; inputs_are = refl; emitted = []; law = λ xs. refl }, refl)

pub one_taken : {O : Type 0} {before now after : List Char → List (List O)} {c : ℕ} {p : Place} {most : ℕ} {r s : BoundedList O} (inputs : List Char) (q : Place) (cs next : List ℕ)
    → Pushes now after (record { c = c; place = p }) most r s → q ≡ next_place p c → cs ≡ c ∷ next → TakenTo before now inputs (placed_characters_from p cs) → TakenTo before after inputs (placed_characters_from q next)
one_taken {before = before} {now = now} {after = after} {c = c} {p = p} inputs q cs next g later past h =
    let x : Char = record { c = c; place = p } in
    let t = h.0 in
    let left_is : t.left ≡ x ∷ placed_characters_from (next_place p c) next = h.1 ∙ ap (placed_characters_from p) past in (
      record {
        taken = t.taken ++ x ∷ [];
        left = placed_characters_from q next;
        inputs_are = t.inputs_are ∙ ap (λ (xs : List Char). t.taken ++ xs) left_is ∙ ap (λ (o : Place). t.taken ++ x ∷ placed_characters_from o next) (sym later)
            ∙ sym (append_assoc t.taken (x ∷ []) (placed_characters_from q next));
        emitted = t.emitted ++ g.events ∷ [];
        law = λ xs. ap before (append_assoc t.taken (x ∷ []) xs) ∙ t.law (x ∷ xs) ∙ ap (λ ls. t.emitted ++ ls) (g.law xs) ∙ sym (append_assoc t.emitted (g.events ∷ []) (after xs));
      },
      refl,
    )

-- a stage that was given up has taken some of its inputs, or all
abbrev pub GivenUp : {O : Type 0} → (List Char → List (List O)) → (List Char → List (List O)) → List Char → Type 0
GivenUp before after inputs = HasTaken before after inputs ⊎ EmitsNothing after

on_error : {T E : Type 0} (r : Result T E) (P : Type 0) → P → OnErr r P
on_error r P p = grind arith

pub on_the_way : {T E O : Type 0} (r : Result T E) (before after : List Char → List (List O)) (inputs left : List Char) → TakenTo before after inputs left → OnErr r (GivenUp before after inputs)
on_the_way r before after inputs left h = on_error r (GivenUp before after inputs) (inl h.0)

pub at_the_end : {T E O : Type 0} (r : Result T E) (before after : List Char → List (List O)) (inputs : List Char) → EmitsNothing after → OnErr r (GivenUp before after inputs)
at_the_end r before after inputs h = on_error r (GivenUp before after inputs) (inr h)
