use Rattle.std.proofs.Common.{◌≤◌, List, length, ap, sym, ◌∙◌, subst}
use Rattle.std.specs.List.{flat_map}
use Rattle.std.proofs.lemmas.List.Elements.{All-tail}
use Rattle.gabc_nabc.specs.Parts.{AreWithin}
use Rattle.gabc_nabc.specs.declared.descriptor.Descriptor.{Descriptor}
use Rattle.gabc_write.specs.DumpOfNabc.{line_of_part}
use Rattle.gabc_write.proofs.dump_nabc.put_parts.Goals as goal

pub loop-part-preserved : goal.loop-part-preserved
loop-part-preserved g c =
    let kept = c.args.kept.now in
    let comes = c.in-Some.ensures.steps in
    record {
      put = rw c.put_part.ensures (g.met.S.Put.taken_both _ _ _
          ∙ ap (λ (parts : List Descriptor). g.S.Put.taken c.loop-part.out (flat_map (line_of_part kept) parts)) (sym comes) ∙ c.loop-part.invariant.put);
      within = All-tail (λ (part : Descriptor). (part.span.from ≤ part.span.to) × (part.span.to ≤ length kept)) c.in-Some.part c.next.new.self
          (subst (AreWithin kept) comes c.loop-part.invariant.within);
    }
