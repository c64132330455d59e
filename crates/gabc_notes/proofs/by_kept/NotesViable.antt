-- The tests of notes by longest items are those by derivatives.
use Rattle.std.proofs.Common.{◌≡◌, ℕ, List, [], ◌∷◌, ◌++◌, Bool, true, not, ◌&&◌, refl, ap, ◌∙◌, arith, codes, Decides}
use Rattle.std.specs.List.{list_any}
use Rattle.gabc_patterns.specs.LongestItems.{IsViable}
use Rattle.gabc_patterns.specs.Derivative.{same_texts, is_snippet as snippet_by_steps, is_viable as viable_by_steps}
use Rattle.gabc_patterns.proofs.ReadDecides.{goes_decides, read_same, goes_same}
use Rattle.gabc_patterns.proofs.StatesAfterTexts.{completes}
use Rattle.gabc_notes.specs.Table.{gabc}
use Rattle.gabc_notes.specs.Events.{in_raw as raw_by_steps}
use Rattle.gabc_notes.specs.KeptNotes.{is_snippet, is_viable, in_raw}
use Rattle.gabc_notes.specs.declared.state.ItemState.{ItemState}
use Rattle.gabc_notes.proofs.machine.MachineReadsTable.{machine, snippets_read}
use Rattle.gabc_notes.proofs.grammar.LawsOfKeptTexts.{kinds_are_one, completion, completed}

-- what completes a state is nothing, a pitch or a `]`
among : (s : ItemState) → list_any (same_texts (completion s)) ([] ∷ codes "f" ∷ codes "]" ∷ []) ≡ true
among s = grind arith

pub viable_decides : (t : List ℕ) → Decides (is_viable t) (IsViable gabc t)
viable_decides = goes_decides gabc refl kinds_are_one ([] ∷ codes "f" ∷ codes "]" ∷ []) (λ t v. let y = completes gabc machine snippets_read completion completed t v in (completion y.0, y.2, among y.0))

pub viable_same : (t : List ℕ) → is_viable t ≡ viable_by_steps gabc t
viable_same = goes_same gabc refl kinds_are_one ([] ∷ codes "f" ∷ codes "]" ∷ []) viable_decides

pub snippet_same : (t : List ℕ) → is_snippet t ≡ snippet_by_steps gabc t
snippet_same = read_same gabc refl kinds_are_one

pub raw_same : (t : List ℕ) → in_raw t ≡ raw_by_steps t
raw_same t = ap (λ (b : Bool). b && not (is_snippet t)) (snippet_same (t ++ codes "]")) ∙ ap (λ (b : Bool). snippet_by_steps gabc (t ++ codes "]") && not b) (snippet_same t)
