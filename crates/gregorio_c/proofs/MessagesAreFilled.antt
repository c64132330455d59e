-- A buffer that is filled message by message, and what is left to fill it with.
use Rattle.std.proofs.Common.{◌≡◌, ℕ, ◌+◌, ◌-◌, ◌<◌, Bool, true, false, List, [], ◌∷◌, ◌++◌, Option, length, take, drop, get_or, set, subst, sym, ap₂, ◌∙◌, arith}
use Rattle.std.proofs.lemmas.List.{take-append-drop, take-set, drop-set, take_all, at_drop_more}
use Rattle.std.specs.List.{flat_map}
use Rattle.gabc_places.specs.declared.code.Fault.{Fault}
use Rattle.gabc_places.specs.declared.code.Finding.{Finding}
use Rattle.gabc_places.specs.Filling.{filled, filled_len, filled_both}
use Rattle.gregorio.specs.Outcome.{is_shown}
use Rattle.gregorio_c.specs.Messages.{fault_message, message_at, shown_message}
use Rattle.gregorio_c.specs.declared.message.Message.{Message}

-- an item that is set fills its place
pub set_fills : {X : Type 0} (buf : List X) (at : ℕ) (x : X) → at < length buf → set buf at x ≡ filled buf at (x ∷ [])
set_fills buf at x lt =
    let all : take (length buf - at) (x ∷ []) ≡ x ∷ [] = take_all (length buf - at) (x ∷ []) (omega (arith, lt)) in
    rw all (sym (take-append-drop at (set buf at x)) ∙ ap₂ (λ a b. a ++ b) (take-set buf at x) (drop-set buf at x lt))

-- what follows an item that was put goes on after it
pub goes_on_after : {X : Type 0} (buf new : List X) (at len : ℕ) (x : X) (rest : List X) → new ≡ filled buf at (x ∷ []) → len ≡ filled_len buf at (x ∷ []) → filled new len rest ≡ filled buf at (x ∷ rest)
goes_on_after buf new at len x rest is goes = rw (is, goes) (filled_both buf at (x ∷ []) rest)

module _ (all : Bool) (fault : Option Fault) where
  -- the messages of findings, and last that of the fault
  abbrev pub messages_left : List Finding → List Message
  messages_left fs = flat_map (shown_message all) fs ++ fault_message fault

  -- before a finding that is shown its message comes first, and one that is hidden has none
  module _ (found fs : List Finding) (same : found ≡ fs) (i : ℕ) (d : Finding) (lt : i < length found) where
    next_left : messages_left (drop i fs) ≡ messages_left (get_or found i d ∷ drop (i + 1) fs)
    next_left = subst (λ (gs : List Finding). messages_left (drop i gs) ≡ messages_left (get_or found i d ∷ drop (i + 1) gs)) same (at_drop_more messages_left found i d lt)

    pub shown_is_first : (m : Message) → is_shown all (get_or found i d) ≡ true → m ≡ message_at (get_or found i d).place (get_or found i d).code → messages_left (drop i fs) ≡ m ∷ messages_left (drop (i + 1) fs)
    shown_is_first m shown is = grind (arith, next_left)

    pub hidden_is_none : is_shown all (get_or found i d) ≡ false → messages_left (drop i fs) ≡ messages_left (drop (i + 1) fs)
    hidden_is_none hidden = grind (arith, next_left)
