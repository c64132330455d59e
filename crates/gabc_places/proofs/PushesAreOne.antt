-- What several calls of a stage do together.
use Rattle.std.proofs.Common.{ℕ, List, [], ◌∷◌, ◌++◌, ◌≡◌, refl, ap, sym, ◌∙◌, append_assoc, append-nil, arith}
use Rattle.std.proofs.lemmas.Grind.{common_steps}
use Rattle.std.proofs.lemmas.List.Concat.{flat_map-append}
use Rattle.gabc_places.specs.BoundedList.{BoundedList}
use Rattle.gabc_places.specs.StageLaw.{concat_of, silence, Pushes, Finishes}
use Rattle.gabc_places.specs.machine.StageLaw.{PushesAll}

pub joined-append : {T : Type 0} (a b : List (List T)) → concat_of (a ++ b) ≡ concat_of a ++ concat_of b
joined-append a b = flat_map-append (λ xs. xs) a b

joined-more : {T : Type 0} (a : List (List T)) (b : List T) → concat_of (a ++ b ∷ []) ≡ concat_of a ++ b
joined-more a b = joined-append a (b ∷ []) ∙ ap (λ v. concat_of a ++ v) (append-nil b)

-- pushes of all of a prefix, and then a push of x, are pushes of all of the prefix with x
pub emits_all-step : {I O : Type 0} (before mid after : List I → List (List O)) (prefix : List I) (x : I) (most : ℕ) (r s t : BoundedList O)
    → PushesAll before mid prefix most r s → Pushes mid after x most s t → PushesAll before after (prefix ++ x ∷ []) most r t
emits_all-step before mid after prefix x most r s t a b = record {
  events = a.events ++ b.events ∷ [];
  out = rw (joined-more a.events b.events) (grind (arith, common_steps, a.out, b.out));
  one_each = grind (arith, common_steps, a.one_each);
  few = rw (joined-more a.events b.events) (grind (arith, common_steps, a.few, b.few));
  law = λ ys. ap before (append_assoc prefix (x ∷ []) ys) ∙ a.law (x ∷ ys) ∙ ap (λ v. a.events ++ v) (b.law ys) ∙ sym (append_assoc a.events (b.events ∷ []) (after ys));
}

-- silence is nothing
pub joined_silence : {I O : Type 0} (xs : List I) → concat_of (silence {I = I} {O = O} xs) ≡ []
joined_silence [] = refl
joined_silence (x ∷ xs) = joined_silence xs

-- what is gathered with a push, and what is still to come, is what was gathered and what was to come
pub gathered-pushed : {I O : Type 0} {before after : List I → List (List O)} {x : I} {most : ℕ} (all more : List O) (r s : BoundedList O) (xs : List I)
    → Pushes before after x most r s → r.items ≡ [] → more ≡ all ++ s.items → more ++ concat_of (after xs) ≡ all ++ concat_of (before (x ∷ xs))
gathered-pushed all more r s xs g empty e = grind (arith, append_assoc)

-- and with the end
pub gathered-ended : {I O : Type 0} {before : List I → List (List O)} {most : ℕ} (all more : List O) (r s : BoundedList O)
    → Finishes before most r s → r.items ≡ [] → more ≡ all ++ s.items → more ≡ all ++ concat_of (before [])
gathered-ended all more r s g empty e = grind (arith, append-nil)
