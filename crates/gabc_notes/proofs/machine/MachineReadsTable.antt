-- The machine reads the table.
use Rattle.std.proofs.Common.{◌≡◌, ℕ, ◌≤◌, Bool, true, refl, arith}
use denote.Enum.Bare.{sameb, same_true}
use Rattle.std.proofs.lemmas.Bool.Decides.{nat_tests}
use Rattle.gabc_notes.specs.Table.{gabc}
use Rattle.gabc_notes.specs.machine.CharClass.{class_of_character}
use Rattle.gabc_notes.specs.machine.ItemMachine.{going_on, next_state, kind_at_end, whole_at}
use Rattle.gabc_notes.specs.witness.ItemMachine.{example}
use Rattle.gabc_notes.specs.declared.class.CharClass.{CharClass}
use Rattle.gabc_notes.specs.declared.item.ItemKind.{ItemKind}
use Rattle.gabc_notes.specs.contracts.item.ItemKind.{the_type}
use Rattle.gabc_notes.specs.declared.state.ItemState.{ItemState}
use Rattle.gabc_notes.specs.declared.state.ItemState.TheVariants.{Start, Done}
use Rattle.gabc_notes.specs.declared.state.FullItem.TheVariants.{Alteration as FullAlteration}
use Rattle.gabc_patterns.proofs.AutomatonsByTests.{Automaton, ReadsSnippets, ReadsItems, test_snippets, test_items}
use Rattle.gabc_patterns.proofs.TestedAutomatonReads.{reads_snippets, reads_items}

-- the machine as an automaton
abbrev pub machine : Automaton ItemKind ItemState CharClass
machine = record {
  class_of = class_of_character;
  first = Start;
  example = example;
  goes_on = going_on;
  next = next_state;
  ends = kind_at_end;
  whole = whole_at;
}

-- a test of two kinds
abbrev same_kind : ItemKind → ItemKind → Bool
same_kind = sameb the_type

-- kinds that test alike are equal
same_kind_equal : (k j : ItemKind) → same_kind k j ≡ true → k ≡ j
same_kind_equal = same_true the_type tt

-- a character from 128 on is of the class of 128
pub far : (c : ℕ) → 128 ≤ c → class_of_character c ≡ class_of_character 128
far c h = grind (arith, nat_tests)

-- the tests of reading snippets come out
snippets_checked : (s : ItemState) → test_snippets same_kind gabc machine s ≡ true
snippets_checked (Done FullAlteration) = refl
snippets_checked _ = refl

-- the tests of reading items come out
items_checked : (s : ItemState) → test_items same_kind gabc machine s ≡ true
items_checked (Done FullAlteration) = refl
items_checked _ = refl

-- the machine reads the snippets of the table
pub snippets_read : ReadsSnippets gabc machine
snippets_read = reads_snippets same_kind same_kind_equal gabc machine far refl refl refl snippets_checked

-- the machine reads the items of the table
pub items_read : ReadsItems gabc machine
items_read = reads_items same_kind same_kind_equal gabc machine far refl items_checked
