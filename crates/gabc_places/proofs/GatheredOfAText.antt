-- What is gathered of a text, a character at a time.
use Rattle.std.proofs.Common.{ℕ, List, [], ◌∷◌, ◌++◌, ◌≡◌, ap, sym, ◌∙◌}
use Rattle.gabc_places.specs.declared.place.Char.{Char}
use Rattle.gabc_places.specs.declared.place.Place.{Place}
use Rattle.gabc_places.specs.BoundedList.{BoundedList}
use Rattle.gabc_places.specs.StageLaw.{concat_of, Pushes, Finishes}
use Rattle.gabc_places.specs.Place.{next_place, placed_characters_from}
use Rattle.gabc_places.proofs.PushesAreOne.{gathered-pushed, gathered-ended}

pub gathered-character : {O : Type 0} {before after : List Char → List (List O)} {c : ℕ} {p : Place} {most : ℕ} {r s : BoundedList O} (all more end : List O) (q : Place) (cs next : List ℕ)
    → Pushes before after (record { c = c; place = p }) most r s → r.items ≡ [] → more ≡ all ++ s.items → q ≡ next_place p c → cs ≡ c ∷ next
    → all ++ concat_of (before (placed_characters_from p cs)) ≡ end → more ++ concat_of (after (placed_characters_from q next)) ≡ end
gathered-character {before = before} {after = after} {c = c} {p = p} {r = r} {s = s} all more end q cs next g empty e later past i =
    ap (λ (x : Place). more ++ concat_of (after (placed_characters_from x next))) later
    ∙ gathered-pushed all more r s (placed_characters_from (next_place p c) next) g empty e
    ∙ ap (λ (xs : List ℕ). all ++ concat_of (before (placed_characters_from p xs))) (sym past)
    ∙ i

pub gathered-end : {O : Type 0} {before : List Char → List (List O)} {most : ℕ} {r s : BoundedList O} (all more end : List O) (p : Place) (cs : List ℕ)
    → Finishes before most r s → r.items ≡ [] → more ≡ all ++ s.items → cs ≡ [] → all ++ concat_of (before (placed_characters_from p cs)) ≡ end → more ≡ end
gathered-end {before = before} {r = r} {s = s} all more end p cs g empty e none i =
    gathered-ended all more r s g empty e ∙ ap (λ (xs : List ℕ). all ++ concat_of (before (placed_characters_from p xs))) (sym none) ∙ i

pub emptied : {O : Type 0} (r : BoundedList O) (s t : BoundedList O) (events : List O) (n m : ℕ) → s ≡ record r { items = r.items ++ events } → t ≡ record s { items = [] } → r.limit ≡ n → m ≡ n → t.limit ≡ m
emptied r s t events n m e h i k = ap (λ (x : BoundedList _). x.limit) h ∙ ap (λ (x : BoundedList _). x.limit) e ∙ i ∙ sym k
