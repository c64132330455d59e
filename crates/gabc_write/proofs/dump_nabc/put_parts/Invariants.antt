use Rattle.std.proofs.Common.{◌≡◌}
use Rattle.std.specs.List.{flat_map}
use Rattle.gabc_nabc.specs.Parts.{parts_of, AreWithin}
use Rattle.gabc_write.specs.DumpOfNabc.{line_of_part}
use Rattle.gabc_write.proofs.dump_nabc.put_parts.Given as goal

-- with what is left, it will have taken all of it
abbrev pub invariant-loop-part : goal.invariant-loop-part
invariant-loop-part g l = record {
  put : g.S.Put.taken l.out (flat_map (line_of_part l.kept) l.part-iterator) ≡ g.S.Put.taken l.initial.out (flat_map (line_of_part l.kept) (parts_of l.kept));
  within : AreWithin l.kept l.part-iterator;
}
