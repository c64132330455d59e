-- The machine reads the table.
use Rattle.std.proofs.Common.{◌≡◌, ℕ, ◌≤◌, Bool, true, refl, arith}
use Rattle.std.proofs.lemmas.Bool.Decides.{nat_tests}
use Rattle.gabc_nabc.specs.Table.{nabc}
use Rattle.gabc_nabc.specs.CharClass.{class_of_character}
use Rattle.gabc_nabc.specs.witness.DescriptorMachine.{going_on, next_state, whole_at}
use Rattle.gabc_nabc.specs.machine.DescriptorMachine.{is_space_at_end, example}
use Rattle.gabc_nabc.specs.declared.class.NabcClass.{NabcClass}
use Rattle.gabc_nabc.specs.declared.state.DescriptorState.{DescriptorState}
use Rattle.gabc_nabc.specs.declared.state.DescriptorState.TheVariants.{Start}
use Rattle.gabc_patterns.proofs.AutomatonsByTests.{Automaton, ReadsSnippets, ReadsItems, alike, alike_equal, test_snippets, test_items}
use Rattle.gabc_patterns.proofs.TestedAutomatonReads.{reads_snippets, reads_items}

-- the machine as an automaton
abbrev pub machine : Automaton Bool DescriptorState NabcClass
machine = record {
  class_of = class_of_character;
  first = Start;
  example = example;
  goes_on = going_on;
  next = next_state;
  ends = is_space_at_end;
  whole = whole_at;
}

-- a character from 128 on is of the class of 128
pub far : (c : ℕ) → 128 ≤ c → class_of_character c ≡ class_of_character 128
far c h = grind (arith, nat_tests)

-- the tests of reading snippets come out
snippets_checked : (s : DescriptorState) → test_snippets alike nabc machine s ≡ true
snippets_checked s = grind arith

-- the tests of reading items come out
items_checked : (s : DescriptorState) → test_items alike nabc machine s ≡ true
items_checked s = grind arith

-- the machine reads the snippets of the table
pub snippets_read : ReadsSnippets nabc machine
snippets_read = reads_snippets alike alike_equal nabc machine far refl refl refl snippets_checked

-- the machine reads the items of the table
pub items_read : ReadsItems nabc machine
items_read = reads_items alike alike_equal nabc machine far refl items_checked
