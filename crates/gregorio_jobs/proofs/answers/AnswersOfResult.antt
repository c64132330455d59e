-- What a call answered that answers as it should unless there is no memory.
use Rattle.std.proofs.Common.{◌≡◌, ◌≢◌, ◌∙◌, Result, Ok, Err, sym}
use Rattle.gregorio_jobs.specs.declared.refusal.Refusal.{Refusal}
use Rattle.gregorio_jobs.specs.declared.refusal.Refusal.TheVariants.{O0}

pub answered_ok : {A : Type 0} (r want : Result A Refusal) (x : A) → (r ≢ Err O0 → r ≡ want) → r ≡ Ok x → want ≡ Ok x
answered_ok r want x matched_is is = sym (matched_is (λ e. cc)) ∙ is

pub answered_err : {A B : Type 0} (r want : Result A Refusal) (e : Refusal) (out : Result B Refusal)
    → (r ≢ Err O0 → r ≡ want) → r ≡ Err e → out ≡ Err e → out ≢ Err O0 → want ≡ Err e
answered_err r want e out matched_is is out_is h = sym (matched_is (λ q. h cc)) ∙ is
