use Rattle.std.proofs.Common.{◌≡◌, ℕ, arith, sym, ap, ◌∙◌, length, length-append, List, [], ◌∷◌}
use Rattle.std.proofs.lemmas.Str.{chars-nil}
use Rattle.std.proofs.lemmas.List.{nil_from_length}
use Rattle.std.specs.Str.{chars}
use Rattle.gabc_places.specs.declared.decoded.Tail.TheVariants.{Nothing, Part}
use Rattle.gabc_places.proofs.utf8.CharacterByCharacter.{partial_short}
use Rattle.gabc_places.proofs.utf8.PartOfACharacter.{nothing_is_partial, part_is}
use Rattle.gabc_places.proofs.decoder.Decoder.take_part.Goals as goal

no_chars : (text rest : List ℕ) → rest ≡ text → length rest ≡ 0 → chars text ≡ []
no_chars text rest e none = ap chars (sym e ∙ nil_from_length rest none) ∙ chars-nil

pub push-requires : goal.push-requires
push-requires c = (omega arith, partial_short c.self.inside.pending.items c.self.invariant.partial)

pub invariant_of-self : goal.invariant_of-self
invariant_of-self c = grind (arith, nothing_is_partial)

pub invariant_of-self-in-None-Wrong : goal.invariant_of-self-in-None-Wrong
invariant_of-self-in-None-Wrong c = grind (arith, nothing_is_partial)

pub invariant_of-self-in-None-Part : goal.invariant_of-self-in-None-Part
invariant_of-self-in-None-Part c = record {
  partial = rw (← c.as_slice.ensures.value) (part_is c.as_slice.result.now Part
      (sym c.prefix_and_tail-tail.ensures.text ∙ no_chars _ _ c.chars.ensures.rest c.in-None-Part.ensures.steps.0.0)
      (sym c.prefix_and_tail-tail.ensures.tail ∙ c.in-None-Part.is-1) (λ e. cc));
  taken = c.self.invariant.taken;
  reached = record { line = c.self.invariant.reached.line; column = c.self.invariant.reached.column; bytes = omega (arith, rw (← c.self.view_is) at c.requires.counted, ap length c.push.ensures.items, length-append c.self.inside.pending.items (c.args.byte ∷ [])) };
  cr = c.self.invariant.cr;
}

pub invariant_of-self-in-None-Nothing : goal.invariant_of-self-in-None-Nothing
invariant_of-self-in-None-Nothing c = record {
  partial = rw (← c.as_slice.ensures.value) (part_is c.as_slice.result.now Nothing
      (sym c.prefix_and_tail-tail.ensures.text ∙ no_chars _ _ c.chars.ensures.rest c.in-None-Nothing.ensures.steps.0.0)
      (sym c.prefix_and_tail-tail.ensures.tail ∙ c.in-None-Nothing.is-1) (λ e. cc));
  taken = c.self.invariant.taken;
  reached = record { line = c.self.invariant.reached.line; column = c.self.invariant.reached.column; bytes = omega (arith, rw (← c.self.view_is) at c.requires.counted, ap length c.push.ensures.items, length-append c.self.inside.pending.items (c.args.byte ∷ [])) };
  cr = c.self.invariant.cr;
}
