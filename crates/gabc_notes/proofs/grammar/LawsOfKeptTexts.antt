-- Laws of the definitions.
use Rattle.std.proofs.Common.{◌≡◌, ℕ, ◌≤◌, List, [], ◌++◌, length, true, codes, arith, Decides}
use Rattle.gabc_patterns.specs.LongestItems.{OneKind, IsSnippet, IsViable, IsItemOf}
use Rattle.gabc_patterns.specs.Derivative.{run, is_whole}
use Rattle.gabc_patterns.proofs.AutomatonsByTests.{reading, rows_of}
use Rattle.gabc_patterns.proofs.RowsAfterACharacter.{rows_end_to}
use Rattle.gabc_patterns.proofs.RowsRun.{ends_once}
use Rattle.gabc_patterns.proofs.ItemSoFar.{one_kind}
use Rattle.gabc_patterns.proofs.StatesAfterTexts.{completes}
use Rattle.gabc_patterns.proofs.FunctionsMeetRelations.{snippet_decides}
use Rattle.gabc_notes.specs.Table.{gabc}
use Rattle.gabc_notes.specs.Events.{in_raw}
use Rattle.gabc_notes.specs.declared.item.ItemKind.{ItemKind}
use Rattle.gabc_notes.specs.declared.state.ItemState.{ItemState}
use Rattle.gabc_notes.specs.declared.state.ItemState.TheVariants.{Dash, Raw, SlashRaw}
use Rattle.gabc_notes.proofs.machine.MachineReadsTable.{machine, snippets_read, items_read}

-- at each state at most one kind may end
once : (s : ItemState) → ends_once (rows_of gabc machine s) ≡ true
once s = grind arith

-- rows that spell one text are of one kind
pub kinds_are_one : OneKind gabc
kinds_are_one = one_kind gabc machine items_read once

-- no item is empty
pub none_empty : (k : ItemKind) → ¬ IsItemOf gabc k []
none_empty k h = (let f = rows_end_to gabc k h in absurd (cc))

-- what completes a state: the pitch of a note, or the bracket that closes
abbrev pub completion : ItemState → List ℕ
completion Dash = codes "f"
completion Raw = codes "]"
completion SlashRaw = codes "]"
completion _ = []

pub completed : (s : ItemState) → is_whole (run gabc (reading gabc machine s) (completion s)) ≡ true
completed s = grind arith

short : (s : ItemState) → length (completion s) ≤ 1
short s = grind arith

-- one character is enough to complete a viable text
pub one_completes : (t : List ℕ) → IsViable gabc t → (more : List ℕ) × (length more ≤ 1) × IsSnippet gabc (t ++ more)
one_completes t v = let y = completes gabc machine snippets_read completion completed t v in (completion y.0, short y.0, y.2)

-- inside raw
pub raw_decides : (t : List ℕ) → Decides (in_raw t) (IsSnippet gabc (t ++ codes "]") × (¬ IsSnippet gabc t))
raw_decides t = grind (arith, snippet_decides)
