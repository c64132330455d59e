use Rattle.std.proofs.Common.{◌≡◌, length, Option, sym, ap, subst, ◌∙◌, arith}
use Rattle.std.proofs.lemmas.Bool.{eqb-true}
use Rattle.std.proofs.lemmas.List.{nil_from_length}
use Rattle.gabc_places.specs.BoundedList.{BoundedList, extended_by}
use Rattle.gabc_places.specs.Place.{saturating_next_place}
use Rattle.gabc_places.specs.declared.code.Finding.{Finding}
use Rattle.gabc_places.specs.declared.place.Place.{Place}
use Rattle.gabc_notes.specs.declared.item.ItemKind.{ItemKind}
use Rattle.gabc_body.specs.Body.{fault_at}
use Rattle.gabc_body.specs.NoteBeforeClef.{found_first}
use Rattle.gabc_score.specs.declared.score_machine.ScoreMachine.{ScoreMachine}
use Rattle.gabc_body.specs.witness.BodyBuilder.{code_in}
use Rattle.gabc_score.specs.machine.ReadsChar.{ReadsChar, StopsWith, GivesPoint, stops, goes, found_past, past_char}
use Rattle.gabc_score.proofs.building.EventsAreGatheredInTurn.{never_lent}
use Rattle.gabc_score.proofs.score_events.CharactersAreRead.{few_gathered, room_gathered}
use Rattle.gabc_score.proofs.score_events.EventsStayWithinBounds.{few_with_first}
use Rattle.gabc_score.proofs.score_events.NothingIsGiven.{nothing_given}
use Rattle.gabc_score.proofs.score_machine.ScoreMachine.read.Goals as goal

found_is : (found new : BoundedList Finding) {was was_is now now_is : Option ItemKind} (place : Place) → was ≡ was_is → now ≡ now_is → new ≡ extended_by found (found_first was now place) → new ≡ extended_by found (found_first was_is now_is place)
found_is found new {was_is = was_is} {now} place w n e = e ∙ ap (λ k. extended_by found (found_first k now place)) w ∙ ap (λ k. extended_by found (found_first was_is k place)) n

pub find_first-requires : goal.find_first-requires
find_first-requires c =
    let few = few_gathered c.requires.stands.rests c.gather.ensures.gathers in
    let room = room_gathered c.requires.stands.rests c.gather.ensures.gathers in
    omega (arith, few, room)

pub stop-requires-clause-used : goal.stop-requires-clause-used
stop-requires-clause-used c = never_lent _ _ c.gather.ensures.gathers.used

pub give_point-requires-clause-few : goal.give_point-requires-clause-few
give_point-requires-clause-few c =
    few_with_first c.gather.new.self.found c.find_first.new.found _ _ c.args.x.place c.find_first.ensures (few_gathered c.requires.stands.rests c.gather.ensures.gathers)

pub returns-in-Some : goal.returns-in-Some
returns-in-Some c =
    let g = c.gather.new.self in
    let same = c.gather.ensures.same in
    let m = c.args.self.now in
    stops c.gather.ensures.gathers (ap (λ (k : ScoreMachine). code_in k.limits g.pair.gathered) (sym same) ∙ (sym c.code.ensures.code ∙ c.in-Some.is))
    (subst (λ (k : ScoreMachine). StopsWith (record k { found = found_past m c.args.x g.pair g.found }) (fault_at c.args.x.place c.in-Some.code) c.stop.new.self c.args.out.now c.stop.new.out) same
    (subst (λ (f : BoundedList Finding). StopsWith (record g { found = f }) (fault_at c.args.x.place c.in-Some.code) c.stop.new.self c.args.out.now c.stop.new.out)
    (found_is g.found c.find_first.new.found c.args.x.place c.sounded-was.ensures c.sounded.ensures c.find_first.ensures) c.stop.ensures))

pub returns-in-None : goal.returns-in-None
returns-in-None c =
    let g = c.gather.new.self in
    let same = c.gather.ensures.same in
    let m = c.args.self.now in
    let give = c.give_point in
    subst (ReadsChar m c.args.x c.args.out.now give.new.out)
    (ap (λ (k : ScoreMachine). past_char k c.args.x g.body give.new.pair give.new.found) (sym same)
    ∙ ap (λ (p : Place). record g { pair = give.new.pair; found = give.new.found; next = p }) (sym c.saturating_after-self-in-None.ensures))
    (goes c.gather.ensures.gathers (record {
      none = ap (λ (k : ScoreMachine). code_in k.limits g.pair.gathered) (sym same) ∙ (sym c.code.ensures.code ∙ c.in-None.is);
      given = subst (λ (f : BoundedList Finding). GivesPoint g.pair f give.new.pair give.new.found c.args.out.now give.new.out) (found_is g.found c.find_first.new.found c.args.x.place c.sounded-was.ensures c.sounded.ensures c.find_first.ensures) give.ensures;
    }))

pub returns-then-is_empty : goal.returns-then-is_empty
returns-then-is_empty c =
    let g = c.gather.new.self in
    let m = c.args.self.now in
    let same = c.gather.ensures.same in
    let found = found_is g.found c.find_first.new.found c.args.x.place c.sounded-was.ensures c.sounded.ensures c.find_first.ensures in
    let nothing = ap (λ (l : BoundedList Finding). l.items) (sym found) ∙ sym c.slice.ensures ∙ nil_from_length c.slice.result.now (eqb-true (length c.slice.result.now) 0 (sym c.is_empty.ensures ∙ c.if-is_empty.true)) in
    subst (ReadsChar m c.args.x c.args.out.now c.args.out.now)
    (ap (λ (k : ScoreMachine). record k { body = g.body; pair = g.pair; found = found_past m c.args.x g.pair g.found; next = saturating_next_place c.args.x.place c.args.x.c }) (sym same)
    ∙ ap (λ (f : BoundedList Finding). record g { found = f; next = saturating_next_place c.args.x.place c.args.x.c }) (sym found)
    ∙ ap (λ (p : Place). record g { found = c.find_first.new.found; next = p }) (sym c.saturating_after-self.ensures))
    (nothing_given c.requires.stands.rests c.gather.ensures.gathers (c.reads_on.ensures.used c.if-reads_on.true) (c.reads_on.ensures.short c.if-reads_on.true) c.args.out.now nothing)
