-- What words want, by what a parse of them gave.
use Rattle.std.proofs.Common.{◌≡◌, ◌⊎◌, ◌∙◌, true, List, [], ◌∷◌, Err, inl, inr, refl, sym, ap, subst, arith}
use Rattle.clap.specs.Words.{App, IsAmong, Kinds, Row, Text, fault_of, is_simple, is_simple_and_free, matches_of}
use Rattle.clap.specs.declared.error.ErrorKind.{ErrorKind}
use Rattle.clap.specs.declared.error.ErrorKind.TheVariants.{OutOfMemory}
use Rattle.clap.proofs.OnLiterals.{clap_on_literals}
use Rattle.gregorio_jobs.specs.declared.refusal.Refusal.{Refusal}
use Rattle.gregorio_jobs.specs.declared.refusal.Refusal.TheVariants.{O0, O1}
use Rattle.gregorio_jobs.specs.Arguments.{gregorio_command}
use Rattle.gregorio_jobs.specs.Wants.{answer, answer_unless, argument_values, wants}
use Rattle.gregorio_jobs.specs.machine.Plan.{refused_by}

is_taken : is_simple_and_free gregorio_command ≡ true
unfolding clap_on_literals
is_taken = refl

is_plain : is_simple gregorio_command ≡ true
unfolding clap_on_literals
is_plain = refl

-- the command takes the words
pub taken : (a : App) (ws words : List Text) (rows : List Row) → a ≡ gregorio_command → ws ≡ words
    → (is_simple_and_free a ≡ true → fault_of a ws ≡ []) → (is_simple a ≡ true → rows ≡ matches_of a ws)
    → answer (argument_values rows) ≡ wants words
taken a ws words rows app same faults matches =
    let none : fault_of gregorio_command words ≡ [] = subst (λ (x : List Text). fault_of gregorio_command x ≡ []) same
    (subst (λ (x : App). is_simple_and_free x ≡ true → fault_of x ws ≡ []) app faults is_taken) in
    let all : rows ≡ matches_of gregorio_command words = subst (λ (x : List Text). rows ≡ matches_of gregorio_command x) same
    (subst (λ (x : App). is_simple x ≡ true → rows ≡ matches_of x ws) app matches is_plain) in
    ap (λ (r : List Row). answer (argument_values r)) all
    ∙ sym (ap (λ (k : Kinds). answer_unless k (argument_values (matches_of gregorio_command words))) none)

refusal_by_kind : (k : ErrorKind) → (refused_by k ≡ O0) ⊎ (refused_by k ≡ O1)
refusal_by_kind k = grind arith

-- the command refuses the words, or there is no memory
pub refused : (a : App) (ws words : List Text) (k : ErrorKind) (r : Refusal) → a ≡ gregorio_command → ws ≡ words
    → (is_simple_and_free a ≡ true → (k ≡ OutOfMemory) ⊎ IsAmong k (fault_of a ws)) → r ≡ refused_by k
    → (r ≡ O0 → ⊥) → Err r ≡ wants words
refused a ws words k r app same faults is h =
    let some : (k ≡ OutOfMemory) ⊎ IsAmong k (fault_of gregorio_command words) =
    subst (λ (x : List Text). (k ≡ OutOfMemory) ⊎ IsAmong k (fault_of gregorio_command x)) same
    (subst (λ (x : App). is_simple_and_free x ≡ true → (k ≡ OutOfMemory) ⊎ IsAmong k (fault_of x ws)) app faults is_taken) in
    elim (refusal_by_kind k) [
      | inl none ↦ absurd (h (is ∙ none))
      | inr one ↦ elim some [
        | inl out ↦ absurd (h (is ∙ ap refused_by out))
        | inr among ↦ go (fault_of gregorio_command words) among (is ∙ one)
      ]
    ]
  where
    go : (kinds : Kinds) → IsAmong k kinds → r ≡ O1 → Err r ≡ answer_unless kinds (argument_values (matches_of gregorio_command words))
    go [] among one = absurd among
    go (x ∷ xs) among one = ap Err one
