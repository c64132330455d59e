use Rattle.gabc_places.specs.declared.place.Place.{Place}
use Rattle.std.proofs.Common.{◌≡◌, IfSome, true, refl, subst, ◌+◌, arith, sym, ap, ◌∙◌}
use Rattle.std.proofs.lemmas.Bool.Decides.{nat_tests}
use Rattle.std.proofs.lemmas.List.{nil_from_length}
use Rattle.gabc_places.specs.declared.code.Code.TheVariants.{F7}
use Rattle.std.specs.Char.{IsScalar}
use Rattle.gabc_places.specs.DecoderMachine.{DecoderState, is_fault_item}
use Rattle.gabc_places.specs.witness.DecoderEvents.{DecoderStep, take_character, take_byte}
use Rattle.gabc_places.specs.contracts.decoder.Decoder.{the_view}
use Rattle.gabc_places.proofs.decoding.AByteIsTaken.{plain_byte_taken, plain_is_scalar}
use Rattle.gabc_places.proofs.decoding.ADecoderMoves.{character_moves_on, fault_moves_on, part_moves_on}
use Rattle.gabc_places.proofs.decoding.ADecoderStops.{fault_stops, part_stops, part_stays, character_is_none, item_of_byte}
use Rattle.gabc_places.proofs.decoder.Decoder.take.Goals as goal
use Rattle.gabc_places.proofs.decoder.Decoder.take.Goals.{else-byte-lt128-via-then-byte-lt128+else-is_empty, else-byte-lt128-via-else-byte-lt128}

taken : (c : goal.After-take_character) → take_character c.from.result (the_view (record c.self.inside { taken = c.self.inside.taken + 1 })) ≡ take_byte c.args.byte (the_view c.self.inside)
taken c = ap (λ n. take_character n (the_view (record c.self.inside { taken = c.self.inside.taken + 1 }))) c.from.ensures
    ∙ sym (plain_byte_taken c.args.byte (the_view c.self.inside) c.if-self.false c.if-self-2.false
    (nil_from_length c.self.inside.pending.items (grind (arith, nat_tests, c.if-is_empty.ensures))) c.if-byte-lt128.true)

pub returns-then-is_empty-clause-item : goal.returns-then-is_empty-clause-item
returns-then-is_empty-clause-item c =
    rw (← c.self.view_is) (item_of_byte c.args.byte (the_view c.self.inside) c.take_character.new.self c.take_character.result
    (c.take_character.ensures.state ∙ ap (λ (t : DecoderStep). t.state) (taken c))
    (c.take_character.ensures.events ∙ ap (λ (t : DecoderStep). t.events) (taken c)))

pub returns-then-self-2-clause-end : goal.returns-then-self-2-clause-end
returns-then-self-2-clause-end c = fault_stops F7 c.args.self.now c.stop.new.self c.stop.result c.stop.ensures.state c.stop.ensures.events

pub returns-clause-end : goal.returns-clause-end
returns-clause-end c = part_stops c.args.byte _ c.take_part.new.self c.take_part.result c.take_part.ensures.state c.take_part.ensures.events

pub returns-then-is_empty-clause-place : goal.returns-then-is_empty-clause-place
returns-then-is_empty-clause-place c = rw (← c.self.view_is) (character_is_none c.from.result (the_view (record c.self.inside { taken = c.self.inside.taken + 1 })) c.take_character.new.self c.take_character.result c.take_character.ensures.state c.take_character.ensures.events)

pub returns-clause-place : goal.returns-clause-place
returns-clause-place c = rw (← c.self.view_is) (subst (λ (p : Place). IfSome c.take_part.result (λ i. is_fault_item i ≡ true → c.take_part.new.self.place ≡ p)) (elim c.else-byte-lt128.branch [ else-byte-lt128-via-then-byte-lt128+else-is_empty w ↦ cc (ap (λ (s : DecoderState). s.place) w.self-is) | else-byte-lt128-via-else-byte-lt128 w ↦ cc (ap (λ (s : DecoderState). s.place) w.self-is) ]) (part_stays c.args.byte _ c.take_part.new.self c.take_part.result c.take_part.ensures.state c.take_part.ensures.events))

pub returns-then-self-2-clause-moves : goal.returns-then-self-2-clause-moves
returns-then-self-2-clause-moves c = fault_moves_on F7 c.args.self.now c.stop.new.self c.stop.result c.stop.ensures.state c.stop.ensures.events

pub returns-then-is_empty-clause-moves : goal.returns-then-is_empty-clause-moves
returns-then-is_empty-clause-moves c =
    rw (← c.self.view_is) (character_moves_on c.from.result (the_view c.self.inside) (the_view (record c.self.inside { taken = c.self.inside.taken + 1 })) c.take_character.new.self c.take_character.result
    (subst IsScalar (sym c.from.ensures) (plain_is_scalar c.args.byte c.if-byte-lt128.true)) (record { limit = refl; taken = refl; place = refl; ended = refl }) c.take_character.ensures.state c.take_character.ensures.events)

pub returns-clause-moves : goal.returns-clause-moves
returns-clause-moves c =
    rw (← c.self.view_is) (part_moves_on c.args.byte (the_view c.self.inside) _ c.take_part.new.self c.take_part.result
    (record {
      limit = elim c.else-byte-lt128.branch [ else-byte-lt128-via-then-byte-lt128+else-is_empty w ↦ cc (ap (λ (s : DecoderState). s.limit) w.self-is) | else-byte-lt128-via-else-byte-lt128 w ↦ cc (ap (λ (s : DecoderState). s.limit) w.self-is) ];
      taken = elim c.else-byte-lt128.branch [ else-byte-lt128-via-then-byte-lt128+else-is_empty w ↦ cc (ap (λ (s : DecoderState). s.taken) w.self-is) | else-byte-lt128-via-else-byte-lt128 w ↦ cc (ap (λ (s : DecoderState). s.taken) w.self-is) ];
      place = elim c.else-byte-lt128.branch [ else-byte-lt128-via-then-byte-lt128+else-is_empty w ↦ cc (ap (λ (s : DecoderState). s.place) w.self-is) | else-byte-lt128-via-else-byte-lt128 w ↦ cc (ap (λ (s : DecoderState). s.place) w.self-is) ];
      ended = elim c.else-byte-lt128.branch [ else-byte-lt128-via-then-byte-lt128+else-is_empty w ↦ cc (ap (λ (s : DecoderState). s.ended) w.self-is) | else-byte-lt128-via-else-byte-lt128 w ↦ cc (ap (λ (s : DecoderState). s.ended) w.self-is) ];
    }) c.take_part.ensures.state c.take_part.ensures.events)

pub returns-then-is_empty-clause-state : goal.returns-then-is_empty-clause-state
returns-then-is_empty-clause-state c = rw (← c.self.view_is) (c.take_character.ensures.state ∙ ap (λ (t : DecoderStep). t.state) (taken c))
