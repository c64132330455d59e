-- What keeps the first bytes of a text.
use Rattle.std.proofs.Common.{◌≡◌, ℕ, List, [], sym, subst, arith}
use Rattle.std.proofs.lemmas.List.{take_all}
use Rattle.gabc_places.specs.Put.{counted_with, filled_with}
use Rattle.gregorio_c.specs.declared.first_bytes.FirstBytes.{FirstBytes}
use Rattle.gregorio_c.specs.machine.FirstBytes.{Keeps}

abbrev taken : FirstBytes → List ℕ → FirstBytes
taken f text = record f { first = filled_with f.first text; counter = counted_with f.counter text }

-- what has taken nothing keeps a text that it takes
keeps_taken : (f : FirstBytes) (text : List ℕ) → Keeps f [] → Keeps (taken f text) text
keeps_taken f text k = grind (arith, take_all)

pub keeps_written : (f g : FirstBytes) (text written : List ℕ) → Keeps f [] → g ≡ taken f written → written ≡ text → Keeps g text
keeps_written f g text written k is same = subst (λ (t : List ℕ). Keeps g t) same (subst (λ (h : FirstBytes). Keeps h written) (sym is) (keeps_taken f written k))
