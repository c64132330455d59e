-- What is handed out if a caller gives no buffer for a text.
use Rattle.std.proofs.Common.{◌≡◌, ℕ, ◌≤◌, List, [], ◌∷◌, ◌++◌, length, drop, refl, arith}
use Rattle.gregorio_c.specs.StepAnswers.{Buffer, IsHandedOut, used}
use Rattle.gregorio_c.specs.Steps.{Made}

empty_filled : (text : List ℕ) → length text ≤ 0 → [] ≡ text ++ drop (length text) []
empty_filled [] h = refl
empty_filled (x ∷ text) h = absurd (omega (arith, h))

module _ (made : Made) (state : Buffer) (output messages : Buffer) (result : ℕ) where
  pub without_texts : (output_then lines_then : List ℕ) → IsHandedOut made state (used [] output_then) (used [] lines_then) result → IsHandedOut made state (used [] []) (used [] []) result
  without_texts output_then lines_then h = grind (arith, empty_filled)

  pub without_a_state : (state_then : List ℕ) → IsHandedOut made (used [] state_then) output messages result → IsHandedOut made (used [] []) output messages result
  without_a_state state_then h = grind (arith, empty_filled)
