-- What is written in two steps is what is written in one.
use Rattle.std.proofs.Common.{◌≡◌, ℕ, List, [], ◌++◌, ap, ◌∙◌, append_assoc, arith}
use Rattle.std.proofs.lemmas.List.{append_cancel_left}
use Rattle.gabc_places.specs.BoundedList.{BoundedList, extended_by}
use Rattle.gregorio.specs.Streams.{Streams, after_bytes}

pub with_both_after : (output lines more_output more_lines : List ℕ) (s : Streams) → after_bytes (output ++ more_output) (lines ++ more_lines) s ≡ after_bytes output lines (after_bytes more_output more_lines s)
with_both_after output lines more_output more_lines s = λ i. record s { output = append_assoc output more_output s.output i; messages = append_assoc lines more_lines s.messages i }

pub same_streams : (s t : Streams) → s.output ≡ t.output → s.messages ≡ t.messages → s.status ≡ t.status → s.fault ≡ t.fault → s ≡ t
same_streams s t output messages status fault = λ i. record { output = output i; messages = messages i; status = status i; fault = fault i }

-- what stands after the same bytes is the same
pub after_same : (output lines : List ℕ) (s t : Streams) → after_bytes output lines s ≡ after_bytes output lines t → s ≡ t
after_same output lines s t e = grind (arith, same_streams, append_cancel_left)

-- what waits is what was written, if nothing waited before
pub waits_now : (old new : BoundedList ℕ) (text : List ℕ) → old.items ≡ [] → new ≡ extended_by old text → new.items ≡ text
waits_now old new text empty e = ap (λ (r : BoundedList ℕ). r.items) e ∙ ap (λ (xs : List ℕ). xs ++ text) empty
