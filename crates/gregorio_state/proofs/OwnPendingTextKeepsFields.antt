-- Fields with their own pending text are themselves.
use Rattle.std.proofs.Common.{◌≡◌, ℕ, List, ap, ◌∙◌, arith}
use Rattle.gregorio_state.specs.Fields.{StateFields, PhaseFields, holding, phase_holding}
use Rattle.gregorio_state.specs.machine.HeldTexts.{text_held}

phase_itself : (p : PhaseFields) → phase_holding (text_held p) p ≡ p
phase_itself p = grind arith

pub holding_its_own : (s : StateFields) (text : List ℕ) → text ≡ text_held s.phase → holding text s ≡ s
holding_its_own s text e = ap (λ (t : List ℕ). holding t s) e ∙ ap (λ (p : PhaseFields). record s { phase = p }) (phase_itself s.phase)
