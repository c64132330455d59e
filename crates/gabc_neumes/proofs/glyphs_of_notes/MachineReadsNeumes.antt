-- The machine reads the table of neumes.
use Rattle.std.proofs.Common.{◌≡◌, ℕ, ◌≤◌, Bool, true, false, ◌&&◌, refl, arith}
use Rattle.std.proofs.lemmas.Bool.{and_parts}
use denote.Enum.Bare.{sameb, same_true}
use Rattle.std.proofs.lemmas.Bool.Decides.{nat_tests}
use Rattle.gabc_notes.specs.declared.note.Shape.{Shape}
use Rattle.gabc_notes.specs.declared.note.Shape.TheVariants as shape
use Rattle.gabc_notes.specs.contracts.note.Shape.{the_type as shape_type}
use Rattle.gabc_neumes.specs.Table.{neumes}
use Rattle.gabc_neumes.specs.machine.GlyphMachine.{class_of_letter, next_state, kind_at_end, example}
use Rattle.gabc_neumes.specs.declared.glyph.Base.{Base}
use Rattle.gabc_neumes.specs.declared.glyph.Base.TheVariants as base
use Rattle.gabc_neumes.specs.declared.glyph.Tail.{Tail}
use Rattle.gabc_neumes.specs.contracts.glyph.Tail.{the_type as tail_type}
use Rattle.gabc_neumes.specs.declared.glyph.GlyphKind.{GlyphKind}
use Rattle.gabc_neumes.specs.declared.state.NoteClass.{NoteClass}
use Rattle.gabc_neumes.specs.declared.state.JoinedBase.TheVariants as joined
use Rattle.gabc_neumes.specs.declared.state.GlyphState.{GlyphState}
use Rattle.gabc_neumes.specs.declared.state.GlyphState.TheVariants.{Start, One, Plain, Falling, Resumed}
use Rattle.gabc_patterns.specs.LongestItems.{OneKind}
use Rattle.gabc_patterns.proofs.AutomatonsByTests.{Automaton, ReadsItems, rows_of, test_items}
use Rattle.gabc_patterns.proofs.RowsRun.{ends_once}
use Rattle.gabc_patterns.proofs.ItemSoFar.{one_kind}
use Rattle.gabc_patterns.proofs.TestedAutomatonReads.{reads_items}

-- the machine as an automaton
abbrev pub machine : Automaton GlyphKind GlyphState NoteClass
machine = record {
  class_of = class_of_letter;
  first = Start;
  example = example;
  goes_on = next_state;
  next = next_state;
  ends = kind_at_end;
  whole = λ _. true;
}

-- tests of two kinds, part by part, and that what tests alike is equal
abbrev pub same_shape : Shape → Shape → Bool
same_shape = sameb shape_type

pub same_shape_equal : (k j : Shape) → same_shape k j ≡ true → k ≡ j
same_shape_equal = same_true shape_type tt

abbrev pub same_base : Base → Base → Bool
same_base base.Pes base.Pes = true
same_base base.Clivis base.Clivis = true
same_base base.Torculus base.Torculus = true
same_base base.Porrectus base.Porrectus = true
same_base base.Scandicus base.Scandicus = true
same_base base.ScandicusFlexus base.ScandicusFlexus = true
same_base base.TorculusResupinus base.TorculusResupinus = true
same_base base.PorrectusFlexus base.PorrectusFlexus = true
same_base base.TorculusResupinusFlexus base.TorculusResupinusFlexus = true
same_base base.Climacus base.Climacus = true
same_base base.Inclinata base.Inclinata = true
same_base (base.One s) (base.One r) = same_shape s r
same_base _ _ = false

pub same_base_equal : (k j : Base) → same_base k j ≡ true → k ≡ j
same_base_equal k j e = grind (arith, same_shape_equal)

abbrev pub same_tail : Tail → Tail → Bool
same_tail = sameb tail_type

pub same_tail_equal : (k j : Tail) → same_tail k j ≡ true → k ≡ j
same_tail_equal = same_true tail_type tt

abbrev pub same_kind : GlyphKind → GlyphKind → Bool
same_kind k j = same_base k.base j.base && same_tail k.tail j.tail

pub same_kind_equal : (k j : GlyphKind) → same_kind k j ≡ true → k ≡ j
same_kind_equal k j e = grind (arith, and_parts, same_base_equal, same_tail_equal)

-- a letter from 128 on is of the class of 128
pub far : (c : ℕ) → 128 ≤ c → class_of_letter c ≡ class_of_letter 128
far c h = grind (arith, nat_tests)

-- the machine goes on and ends as the rows do, and at most one row ends at a time
abbrev tests : GlyphState → Bool
tests s = test_items same_kind neumes machine s && ends_once (rows_of neumes machine s)

-- the tests come out
checked : (s : GlyphState) → tests s ≡ true
checked (One shape.Inclinatum) = refl
checked (Plain joined.Pes) = refl
checked (Falling joined.Pes) = refl
checked (Resumed joined.Pes) = refl
checked _ = refl

items_checked : (s : GlyphState) → test_items same_kind neumes machine s ≡ true
items_checked s = (and_parts (test_items same_kind neumes machine s) (ends_once (rows_of neumes machine s)) (checked s)).0

once : (s : GlyphState) → ends_once (rows_of neumes machine s) ≡ true
once s = (and_parts (test_items same_kind neumes machine s) (ends_once (rows_of neumes machine s)) (checked s)).1

-- the machine reads the neumes of the table
pub items_read : ReadsItems neumes machine
items_read = reads_items same_kind same_kind_equal neumes machine far refl items_checked

-- notes are of one kind
pub kinds_are_one : OneKind neumes
kinds_are_one = one_kind neumes machine items_read once
