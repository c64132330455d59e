-- What regrouping keeps: all that is given, and one list for each input and the end.
use Rattle.std.proofs.Common.{ℕ, ◌+◌, List, [], ◌∷◌, ◌++◌, ◌≡◌, length, take, drop, refl, ap, sym, ◌∙◌, append-nil, arith}
use Rattle.std.proofs.lemmas.List.{take-append-drop}
use Rattle.gabc_places.specs.StageLaw.{concat_of}
use Rattle.gabc_places.specs.Chain.{events_by_input}
use Rattle.gabc_places.proofs.PushesAreOne.{joined-append}

pub joined-regrouped : {I O : Type 0} (xs : List I) (counts : List ℕ) (events : List (List O)) → concat_of (events_by_input xs counts events) ≡ concat_of events
joined-regrouped [] counts events = append-nil (concat_of events)
joined-regrouped (x ∷ xs) [] events = joined-regrouped xs [] events
joined-regrouped (x ∷ xs) (count ∷ counts) events =
    ap (λ v. concat_of (take count events) ++ v) (joined-regrouped xs counts (drop count events))
    ∙ sym (joined-append (take count events) (drop count events))
    ∙ ap concat_of (take-append-drop count events)

pub length-regrouped : {I O : Type 0} (xs : List I) (counts : List ℕ) (events : List (List O)) → length (events_by_input xs counts events) ≡ length xs + 1
length-regrouped [] counts events = refl
length-regrouped (x ∷ xs) [] events = let k = length-regrouped xs [] events in omega (arith, k)
length-regrouped (x ∷ xs) (count ∷ counts) events = let k = length-regrouped xs counts (drop count events) in omega (arith, k)
