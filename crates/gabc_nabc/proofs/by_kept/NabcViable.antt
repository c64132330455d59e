-- The tests of NABC by longest items are those by derivatives.
use Rattle.std.proofs.Common.{◌≡◌, ℕ, List, [], ◌∷◌, true, refl, arith, codes, Decides}
use Rattle.std.specs.List.{list_any}
use Rattle.gabc_patterns.specs.LongestItems.{IsViable}
use Rattle.gabc_patterns.specs.Derivative.{same_texts, is_snippet as snippet_by_steps, is_viable as viable_by_steps}
use Rattle.gabc_patterns.proofs.ReadDecides.{goes_decides, read_same, goes_same}
use Rattle.gabc_patterns.proofs.StatesAfterTexts.{completes}
use Rattle.gabc_nabc.specs.Table.{nabc}
use Rattle.gabc_nabc.specs.KeptNabc.{is_snippet, is_viable}
use Rattle.gabc_nabc.specs.declared.state.DescriptorState.{DescriptorState}
use Rattle.gabc_nabc.proofs.machine.MachineReadsTable.{machine, snippets_read}
use Rattle.gabc_nabc.proofs.grammar.LawsOfEvents.{kinds_are_one, completion, completed}

abbrev ends : List (List ℕ)
ends = [] ∷ codes "a" ∷ codes "aa" ∷ codes "1" ∷ codes "a1" ∷ []

-- what completes a state is one of these
among : (s : DescriptorState) → list_any (same_texts (completion s)) ends ≡ true
among s = grind arith

pub viable_decides : (t : List ℕ) → Decides (is_viable t) (IsViable nabc t)
viable_decides = goes_decides nabc refl kinds_are_one ends (λ t v. let y = completes nabc machine snippets_read completion completed t v in (completion y.0, y.2, among y.0))

pub viable_same : (t : List ℕ) → is_viable t ≡ viable_by_steps nabc t
viable_same = goes_same nabc refl kinds_are_one ends viable_decides

pub snippet_same : (t : List ℕ) → is_snippet t ≡ snippet_by_steps nabc t
snippet_same = read_same nabc refl kinds_are_one
