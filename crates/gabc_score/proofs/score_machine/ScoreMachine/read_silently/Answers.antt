use Rattle.std.specs.List.{list_any}
use Rattle.gabc_score.specs.machine.ReadAlone.{is_error}
use Rattle.std.proofs.Math.Bool.{and-false}
use Rattle.std.proofs.lemmas.Bool.{eqb-true}
use Rattle.std.proofs.lemmas.Bool.Decides.{nat_tests}
use Rattle.gabc_score.specs.machine.SlotPair.{is_made}
use Rattle.gabc_score.proofs.score_events.NothingIsGiven.{fewer, none}
use Rattle.std.proofs.Common.{◌≡◌, ◌==◌, ◌&&◌, [], ◌∷◌, length, refl, List, Bool, true, false, None, Option, is_some, sym, ap, subst, ◌∙◌, arith}
use Rattle.gabc_places.specs.BoundedList.{BoundedList}
use Rattle.gabc_places.specs.declared.code.Code.{Code}
use Rattle.gabc_places.specs.declared.code.Finding.{Finding}
use Rattle.gabc_score.specs.declared.reading_again.SyllableRead.TheVariants.{GivenUp, Open, Whole}
use Rattle.gabc_score.specs.declared.score_machine.ScoreMachine.{ScoreMachine}
use Rattle.gabc_body.specs.witness.BodyBuilder.{code_in}
use Rattle.gabc_score.specs.machine.ReadsSilently.{ReadsSilently, left_by}
use Rattle.gabc_score.proofs.resuming.CharactersGathered.{given_up, goes_on, is_whole, left_is}
use Rattle.gabc_score.proofs.resuming.MachinesPassAgain.{none_is}
use Rattle.gabc_score.proofs.score_events.CharactersAreRead.{limit_gathered, room_gathered}
use Rattle.gabc_score.proofs.score_machine.ScoreMachine.read_silently.Goals.{then-is_refused-via-then-is_refused, then-is_refused-via-else-is_refused+then-is_some}
use Rattle.gabc_score.proofs.score_machine.ScoreMachine.read_silently.Goals as goal

refused_left : (e s w : Bool) → e ≡ true → left_by e s w ≡ GivenUp
refused_left e s w is = grind arith

passed_left : (e s w : Bool) → s ≡ true → left_by e s w ≡ GivenUp
passed_left e s w is = grind arith

open_left : (e s w : Bool) → e ≡ false → s ≡ false → w ≡ false → left_by e s w ≡ Open
open_left e s w a b c = grind arith

whole_left : (e s w : Bool) → e ≡ false → s ≡ false → w ≡ true → left_by e s w ≡ Whole
whole_left e s w a b c = grind arith

pub returns-then-is_refused : goal.returns-then-is_refused
returns-then-is_refused c =
    let a = c.gather.ensures.gathers in
    let same = c.gather.ensures.same in
    let cleared = ap (λ (r : BoundedList Finding). r.limit) c.clear.ensures in
    let room = room_gathered c.requires.rests a in
    given_up c.requires a c.args.is_strict _
    (left_is c.requires a c.args.is_strict ∙ elim c.then-is_refused.branch [
      | then-is_refused-via-then-is_refused w ↦ refused_left _ _ _ (ap (λ (fs : List Finding). c.args.is_strict && list_any is_error fs) (sym c.slice-2.ensures) ∙ sym c.is_refused-is_refused.ensures ∙ w.if-is_refused.true)
      | then-is_refused-via-else-is_refused+then-is_some w ↦
          passed_left _ _ _ (ap (λ (k : ScoreMachine). is_some (code_in k.limits c.gather.new.self.pair.gathered)) (sym same) ∙ ap (λ (o : Option Code). is_some o) (sym w.code.ensures.code) ∙ sym w.is_some.ensures ∙ w.if-is_some.true)
    ]) (ap (λ (k : ScoreMachine). k.limits) same) (record { room = omega (arith, cleared, room); limit = limit_gathered c.requires.rests a ∙ ap (λ (k : ScoreMachine). k.limits.syllable) (sym same) })

pub returns-then-not-is_whole : goal.returns-then-not-is_whole
returns-then-not-is_whole c =
    let m = c.args.self.now in
    let a = c.gather.ensures.gathers in
    let same = c.gather.ensures.same in
    let cleared = ap (λ (r : BoundedList Finding). r.limit) c.clear.ensures in
    let room = room_gathered c.requires.rests a in
    let none : code_in m.limits c.gather.new.self.pair.gathered ≡ None = ap (λ (k : ScoreMachine). code_in k.limits c.gather.new.self.pair.gathered) (sym same) ∙ sym c.code.ensures.code ∙ none_is c.code.result (sym c.is_some.ensures ∙ c.if-is_some.false) in
    let fewer = sym c.is_whole.ensures.made ∙ c.if-not-is_whole.true in
    subst (λ (k : ScoreMachine). ReadsSilently c.args.is_strict m c.args.c Open (record k { found = c.clear.new.self; next = c.saturating_after-self.result })) (sym same)
    (rw c.saturating_after-self.ensures
    (goes_on c.requires a none c.clear.new.self (ap (λ (r : BoundedList Finding). r.items) c.clear.ensures) (omega (arith, cleared, room)) c.args.is_strict
    (left_is c.requires a c.args.is_strict ∙ open_left _ _ _ (ap (λ (fs : List Finding). c.args.is_strict && list_any is_error fs) (sym c.slice-2.ensures) ∙ sym c.is_refused-is_refused.ensures ∙ c.if-is_refused.false) (ap (λ (o : Option Code). is_some o) none) fewer)
    fewer (sym c.is_whole.ensures.used ∙ c.if-not-is_whole.true)))

pub returns : goal.returns
returns c =
    let m = c.args.self.now in
    let a = c.gather.ensures.gathers in
    let same = c.gather.ensures.same in
    let cleared = ap (λ (r : BoundedList Finding). r.limit) c.clear.ensures in
    let room = room_gathered c.requires.rests a in
    let none : code_in m.limits c.gather.new.self.pair.gathered ≡ None = ap (λ (k : ScoreMachine). code_in k.limits c.gather.new.self.pair.gathered) (sym same) ∙ sym c.code.ensures.code ∙ none_is c.code.result (sym c.is_some.ensures ∙ c.if-is_some.false) in
    subst (λ (k : ScoreMachine). ReadsSilently c.args.is_strict m c.args.c Whole (record k { pair = c.rotate.new.self; found = c.clear.new.self; next = c.saturating_after-self.result })) (sym same)
    (rw c.saturating_after-self.ensures
    (is_whole c.requires a none c.clear.new.self (ap (λ (r : BoundedList Finding). r.items) c.clear.ensures) (omega (arith, cleared, room)) c.args.is_strict c.rotate.new.self
    (left_is c.requires a c.args.is_strict ∙ whole_left _ _ _ (ap (λ (fs : List Finding). c.args.is_strict && list_any is_error fs) (sym c.slice-2.ensures) ∙ sym c.is_refused-is_refused.ensures ∙ c.if-is_refused.false) (ap (λ (o : Option Code). is_some o) none) (sym c.is_whole.ensures.made ∙ c.if-not-is_whole.false))
    (record { gathered = c.rotate.ensures.gathered; contexts = c.rotate.ensures.contexts; used = c.rotate.ensures.used })))

none_found : (found : List Finding) → (length found == 0) ≡ true → found ≡ []
none_found [] e = refl
none_found (f ∷ found) e = absurd (grind (arith, nat_tests, eqb-true, e))

pub returns-then-is_empty : goal.returns-then-is_empty
returns-then-is_empty c =
    let m = c.args.self.now in
    let a = c.gather.ensures.gathers in
    let same = c.gather.ensures.same in
    let filling = c.reads_on.ensures.used c.if-reads_on.true in
    let none = none c.requires.rests a filling (c.reads_on.ensures.short c.if-reads_on.true) in
    let fewer = fewer c.requires.rests a filling (c.reads_on.ensures.short c.if-reads_on.true) in
    let empty = none_found c.gather.new.self.found.items (ap (λ (fs : List Finding). length fs == 0) (sym c.slice.ensures) ∙ sym c.is_empty.ensures ∙ c.if-is_empty.true) in
    subst (λ (k : ScoreMachine). ReadsSilently c.args.is_strict m c.args.c Open (record k { next = c.saturating_after-self.result })) (sym same)
    (rw c.saturating_after-self.ensures
    (goes_on c.requires a none c.gather.new.self.found empty (room_gathered c.requires.rests a) c.args.is_strict
    (left_is c.requires a c.args.is_strict ∙ open_left _ _ _ (ap (λ (fs : List Finding). c.args.is_strict && list_any is_error fs) empty ∙ and-false c.args.is_strict) (ap (λ (o : Option Code). is_some o) none) fewer)
    fewer (ap is_made filling)))
