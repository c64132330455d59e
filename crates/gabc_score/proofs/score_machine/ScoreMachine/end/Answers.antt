use Rattle.std.proofs.Common.{rules, ◌≡◌, ◌≤◌, List, length, nat_lt, [], ◌∷◌, ◌++◌, ◌||◌, ◌∙◌, refl, sym, ap, subst, None, arith}
use Rattle.std.specs.List.{All}
use Rattle.gabc_places.specs.BoundedList.{BoundedList}
use Rattle.gabc_places.specs.declared.code.Finding.{Finding}
use Rattle.gabc_headers.specs.declared.head_event.HeadEvent.TheVariants as head_event
use Rattle.gabc_body.specs.declared.events.BodyEvent.{BodyEvent}
use Rattle.gabc_score.specs.declared.score_machine.ScoreMachine.{ScoreMachine}
use Rattle.gabc_score.specs.declared.score_machine.ScorePart.{ScorePart}
use Rattle.gabc_body.specs.ScoreEvents.{Stop, End, outputs_of}
use Rattle.gabc_score.specs.NoNotes.{OnlyFirstHasNotes}
use Rattle.gabc_body.specs.Syllable.{UnplacedSyllable}
use Rattle.gabc_body.specs.witness.BodyBuilder.{code_in, end_fault, end_findings, with_all, with_found}
use Rattle.gabc_body.specs.witness.Gatherer.{Gathered, with_last}
use Rattle.gabc_score.specs.machine.Preceded.{Contexts}
use Rattle.gabc_score.specs.machine.ScoreMachine.{has_given, IsAtRest, IsScoreAt, IsShort}
use Rattle.gabc_score.specs.machine.ScoreStage.{placed_after}
use Rattle.gabc_score.proofs.building.EventsAreGatheredInTurn.{never_lent}
use Rattle.gabc_score.proofs.score_events.EventsStayWithinBounds.{few_found}
use Rattle.gabc_score.proofs.score_events.GatheredStaysWithinLimits.{short_at_end}
use Rattle.gabc_score.proofs.score_events.FewAndShortAreLent.{held_lends, lends_these, no_code, placed_within}
use Rattle.gabc_score.proofs.score_events.GivesOutside.{gives_outside}
use Rattle.gabc_score.proofs.score_events.LastHasNoNotes.{last_has_no_notes, none_made_at_end}
use Rattle.gabc_score.proofs.score_events.PartsFollow.{last_after, leads_out}
use Rattle.gabc_score.proofs.score_events.MemoryIsKept.{limit_last, limit_past, room_past}
use Rattle.gabc_score.proofs.score_machine.ScoreMachine.end.Goals as goal

pub hold-requires : goal.hold-requires
hold-requires c = grind arith

pub close_last-has_last-requires : goal.close_last-has_last-requires
close_last-has_last-requires c = never_lent _ _ c.hold.ensures.used

pub give_end-requires-clause-few : goal.give_end-requires-clause-few
give_end-requires-clause-few c = rw (c.slice.ensures) (few_found c.args.self.now.found c.hold.new.found c.close.new.self.events c.requires.stands.rests.rests.none c.hold.ensures.found c.close.ensures.events.few)

-- the memory stays reserved up to the last text
kept_memory : (m : ScoreMachine) (g h k : Gathered) (found : BoundedList Finding) (now : List BodyEvent) → IsAtRest m → g ≡ m.pair.gathered → h ≡ with_all g now → k ≡ with_last h → found ≡ with_found m.found now → (9 ≤ found.limit) × (k.limit ≡ m.limits.syllable)
kept_memory m g h k found now rests free hold last is =
    (room_past m.found found now is rests.room, ap (λ (k : Gathered). k.limit) last ∙ limit_last h ∙ limit_past m.pair.gathered g h now free hold ∙ rests.limit)

pub returns-in-Some : goal.returns-in-Some
returns-in-Some c =
    let held = c.close_last-has_last.new.self.held in
    let m = c.args.self.now in
    let preceded = ap (λ (k : Contexts). nat_lt 0 k.before.syllables) (c.close_last-has_last.ensures.contexts ∙ (c.hold.ensures.contexts ∙ c.free.ensures.contexts)) in
    let rests = c.requires.stands.rests.rests in
    let fault = c.in-Some.fault in
    let given = outputs_of [] (placed_after (has_given m) held) in
    let kept = kept_memory m c.free.new.self.gathered c.hold.new.pair.gathered c.close_last-has_last.new.self.gathered c.hold.new.found c.close.new.self.events rests c.free.ensures.gathered c.hold.ensures.gathered c.close_last-has_last.ensures.gathered c.hold.ensures.found in
    record {
      step = gives_outside (given ++ Stop fault ∷ []) (λ is. absurd (cc (is, c.stop.ensures.part))) (λ heads. absurd (cc (heads, c.requires.stands.part))) (record {
        lends = held_lends m.limits 2 (has_given m) held m.pair.gathered.made (Stop fault ∷ []) refl (c.close_last-has_last.ensures.held ∙ (c.hold.ensures.held ∙ c.free.ensures.held)) rests.short (rw (sym preceded) c.stop.ensures.few) (omega arith);
        limits = c.stop.ensures.limits;
        part = leads_out m.part c.stop.new.self.part head_event.End given (Stop fault) c.requires.stands.part c.stop.ensures.part refl;
        last = λ other final. last_after given (Stop fault) refl;
        passes = λ other. tt;
        law = search rules;
        emitted = rw (sym preceded) c.stop.ensures.emitted;
      });
      rests = subst (λ (k : ScorePart). IsScoreAt k c.stop.new.self) (sym c.stop.ensures.part) (c.stop.ensures.keeps (record { room = kept.0; limit = kept.1 }));
    }

pub returns-in-None : goal.returns-in-None
returns-in-None c =
    let g = c.hold.new.pair.gathered in
    let p = c.close_last-has_last.new.self in
    let fs = c.hold.new.found.items in
    let found = fs ++ end_findings c.args.self.now.next c.close_last-has_last.result (p.gathered.eu || p.gathered.nlba) in
    let lent = placed_after (has_given c.args.self.now) p.gathered.made in
    let preceded = ap (λ (k : Contexts). nat_lt 0 k.before.syllables) (c.close_last-has_last.ensures.contexts ∙ (c.hold.ensures.contexts ∙ c.free.ensures.contexts)) in
    let rests = c.requires.stands.rests.rests in
    let limits = c.args.self.now.limits in
    let now = c.close.new.self.events in
    let old = c.args.self.now.pair.gathered in
    let is : p.gathered ≡ with_last (with_all old now) = c.close_last-has_last.ensures.gathered ∙ ap with_last (c.hold.ensures.gathered ∙ ap (λ (k : Gathered). with_all k now) c.free.ensures.gathered) in
    let none : code_in limits (with_last (with_all old now)) ≡ None = no_code limits c.args.self.now.next (with_last (with_all old now)) (sym (ap (end_fault limits c.args.self.now.next) is) ∙ (sym c.end_fault.ensures.fault ∙ c.in-None.is)) in
    let all : Gathered = with_all old now in
    let made : all.made ≡ old.made = none_made_at_end c.args.self.now.body old now c.close.ensures.events.law in
    let held = ap (λ (k : Gathered). k.made) c.free.ensures.gathered in
    let one : length all.made ≤ 1 = omega (arith, ap (λ (ms : List UnplacedSyllable). length ms) (made ∙ sym held), c.free.ensures.one) in
    let later : OnlyFirstHasNotes lent = subst (λ (k : Gathered). OnlyFirstHasNotes (placed_after (has_given c.args.self.now) k.made)) (sym is) (last_has_no_notes (has_given c.args.self.now) all one) in
    let short : All (IsShort limits.syllable) p.gathered.made = subst (λ (k : Gathered). All (IsShort limits.syllable) k.made) (sym is) (short_at_end limits c.args.self.now.pair.contexts.before old now rests.limit rests.over c.requires.stands.rests.preceded.follows c.requires.stands.rests.within.written rests.short none) in
    let kept = kept_memory c.args.self.now c.free.new.self.gathered g p.gathered c.hold.new.found now rests c.free.ensures.gathered c.hold.ensures.gathered c.close_last-has_last.ensures.gathered c.hold.ensures.found in
    record {
      step = gives_outside (outputs_of found lent ++ End ∷ []) (λ is. absurd (cc is)) (λ heads. absurd (cc (heads, c.requires.stands.part))) (record {
        lends = lends_these limits 2 found lent (End ∷ []) refl (rw (sym preceded) c.give_end.ensures.few) later (placed_within limits _ p.gathered.made short);
        limits = refl;
        part = leads_out c.args.self.now.part _ head_event.End (outputs_of found lent) End c.requires.stands.part refl refl;
        last = λ other final. last_after (outputs_of found lent) End refl;
        passes = λ other. tt;
        law = search rules;
        emitted = rw (sym c.slice.ensures, sym preceded) c.give_end.ensures.emitted;
      });
      rests = record { room = kept.0; limit = c.give_end.ensures.limit ∙ kept.1 };
    }
