use Rattle.std.proofs.Common.{◌≡◌, ◌++◌, List}
use Rattle.gabc_places.specs.BoundedList.{extended_by}
use Rattle.gabc_nabc.specs.Parts.{parts_of}
use Rattle.gabc_nabc.specs.declared.descriptor.Descriptor.{Descriptor}
use Rattle.gabc_nabc.proofs.descriptors.descriptors_into.Given as goal

-- those that are added, and those to come
abbrev pub invariant-loop-part : goal.invariant-loop-part
invariant-loop-part l = (parts : List Descriptor) × (parts_of l.kept ≡ parts ++ l.part-iterator) × (l.out ≡ extended_by l.initial.out parts)
