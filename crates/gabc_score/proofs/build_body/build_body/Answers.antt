use Rattle.std.proofs.Common.{◌≡◌, ◌-◌, ◌^◌, [], length, refl, ap, sym, subst, ◌∙◌, arith}
use Rattle.std.specs.Str.{IsUtf8, chars}
use Rattle.std.specs.Str.Iter.{chars_rest}
use Rattle.std.proofs.lemmas.Str.{chars_past_char, encodes-chars, length-le-encodes}
use Rattle.gabc_places.proofs.texts.CharactersOfStrings.{chars-none}
use Rattle.gabc_places.specs.declared.place.Char.{Char}
use Rattle.gabc_headers.specs.declared.head_event.HeadEvent.TheVariants as head_event
use Rattle.gabc_places.specs.BoundedList.{BoundedList, extended_by}
use Rattle.gabc_places.specs.Place.{next_place, place_past, placed_characters_from}
use Rattle.gabc_places.specs.StageLaw.{concat_of}
use Rattle.gabc_places.proofs.PlacesOfAText.{within_on, shorter}
use Rattle.gabc_body.specs.Body.{body_of}
use Rattle.gabc_body.specs.NoteBeforeClef.{with_first_each}
use Rattle.gabc_score.specs.witness.BodyStage.{running_events_left}
use Rattle.gabc_score.specs.declared.score_event.ScoreEvent.{ScoreEvent}
use Rattle.gabc_score.specs.ScoreStage.{events_of}
use Rattle.gabc_score.specs.witness.ScoreStage.{left_of}
use Rattle.gabc_score.specs.machine.Collected.{IsSaid, WillSay, result_with, to_come}
use Rattle.gabc_score.specs.machine.ScoreMachine.{shown}
use Rattle.gabc_score.proofs.score_events.BodyIsCollected.{body_said, nothing_said}
use Rattle.gabc_score.proofs.score_events.RunsAreCollected.{says_outputs, says_run}
use Rattle.gabc_body.proofs.emitted.OneListEachCharacter.{events_each}
use Rattle.gabc_score.proofs.build_body.build_body.Goals as goal

pub loop-c-init : goal.loop-c-init
loop-c-init g c =
    let ys = placed_characters_from c.args.start.at (chars c.args.body.now) in
    let all = body_of c.args.limits c.args.start.head c.args.start.findings (place_past c.args.start.at (chars c.args.body.now)) c.args.ending ys (with_first_each [] ys (running_events_left c.args.stage ys)) in
    let a = c.args in
    let begins : WillSay g.C.Give.given a.taker.now a.taker.now a.start.findings _ (concat_of (left_of (shown c.in_ok-machine.machine) (to_come a.ending (placed_characters_from a.start.at (chars a.body.now))))) all = record {
      so_far = nothing_said a.start.findings;
      said = record { taken = sym (g.met.C.Give.given_none a.taker.now); findings_are = refl; fault_is = refl };
      is = body_said a.limits _ (grind arith) (grind arith) c.in_ok-machine.ensures.head a.start.findings a.ending a.start.at (chars a.body.now) a.stage (grind (arith, events_each)) (grind (arith, encodes-chars, length-le-encodes)) (grind (arith, encodes-chars, length-le-encodes)) c.in_ok-machine.ensures.left;
    } in
    let passes = c.pass_run.ensures.passes in
    let rest = c.pass_run.result.now in
    let rest_is = c.chars-chars.ensures.rest in
    let says = says_run g.C.Give.given g.met.C.Give.given_both a.taker.now a.taker.now c.pass_run.new.taker a.start.findings _ (shown c.in_ok-machine.machine) (shown c.pass_run.new.machine) a.start.at c.pass_run.new.place a.body.now rest a.ending all begins passes in
    record {
      utf8 = subst IsUtf8 (sym rest_is) c.pass_run.utf8;
      room = c.in_ok-out.ensures;
      rests = c.pass_run.ensures.rests;
      says = subst (λ bs. WillSay g.C.Give.given a.taker.now c.pass_run.new.taker a.start.findings _ (concat_of (left_of (shown c.pass_run.new.machine) (to_come a.ending (placed_characters_from c.pass_run.new.place (chars bs))))) all) (sym rest_is) says;
      line = let l = ap (λ bs. length bs) rest_is in omega (arith, l, passes.line, c.requires.line);
      column = let l = ap (λ bs. length bs) rest_is in omega (arith, l, passes.column, c.requires.column);
    }

pub loop-c-preserved : goal.loop-c-preserved
loop-c-preserved g c =
    let ys = placed_characters_from c.args.start.at (chars c.args.body.now) in
    let all = body_of c.args.limits c.args.start.head c.args.start.findings (place_past c.args.start.at (chars c.args.body.now)) c.args.ending ys (with_first_each [] ys (running_events_left c.args.stage ys)) in
    let i = c.loop-c.invariant in
    let step = c.in-Some.ensures.steps.0 in
    let rest = chars_rest c.loop-c.chars in
    let next = chars_rest c.next.new.self in
    let past = chars_past_char rest next c.in-Some.c i.utf8 step in
    let e = c.push.ensures.step in
    let emitted_now = ap (λ (r : BoundedList ScoreEvent). r.items) (e.emitted.events ∙ ap (λ r. extended_by r (events_of e.outputs)) i.room) in
    let room = ap (λ (r : BoundedList ScoreEvent). r.limit) (e.emitted.events ∙ ap (λ r. extended_by r (events_of e.outputs)) i.room) in
    let ending = c.args.ending in
    let here = c.loop-c.place in
    let then = c.after-place.result in
    let x : Char = record { c = c.in-Some.c; place = here } in
    let xs = to_come ending (placed_characters_from (next_place here c.in-Some.c) (chars next)) in
    let fits = within_on here (length rest) (length next) (2 ^ 64 - 1) (2 ^ 64 - 1) (shorter rest next c.in-Some.c step) (omega (arith, i.line)) (omega (arith, i.column)) c.in-Some.c then c.after-place.ensures.next in
    let first = c.args.taker.now in
    let mid = c.add_all.new.taker in
    let fs = c.add_all.new.said.findings in
    let fault = c.add_all.new.said.fault in
    let one : WillSay g.C.Give.given first mid fs fault (concat_of (left_of (shown c.push.new.self) xs)) all =
    says_outputs g.C.Give.given first c.loop-c.taker mid c.loop-c.said.findings fs c.loop-c.said.fault fault (left_of (shown c.loop-c.machine)) (left_of (shown c.push.new.self)) (head_event.Body x) e.outputs xs all (e.law xs)
    (λ r said. c.in_ok-add_all.ensures.result_is e.outputs emitted_now e.emitted.lent first r said)
    (subst (λ cs. WillSay g.C.Give.given first c.loop-c.taker c.loop-c.said.findings c.loop-c.said.fault (concat_of (left_of (shown c.loop-c.machine) (to_come ending (placed_characters_from here cs)))) all) past i.says) in
    let there : WillSay g.C.Give.given first mid fs fault (concat_of (left_of (shown c.push.new.self) (to_come ending (placed_characters_from then (chars c.as_str.result.now))))) all =
    subst (λ bs. WillSay g.C.Give.given first mid fs fault (concat_of (left_of (shown c.push.new.self) (to_come ending (placed_characters_from then (chars bs))))) all) (sym c.as_str.ensures)
    (subst (λ p. WillSay g.C.Give.given first mid fs fault (concat_of (left_of (shown c.push.new.self) (to_come ending (placed_characters_from p (chars next))))) all) (sym c.after-place.ensures.next) one) in
    let run = c.pass_run-in-Some in
    let left_is = c.chars-chars-in-Some.ensures.rest in
    let text_is = ap (λ bs. length bs) c.as_str.ensures in
    record {
      utf8 = subst IsUtf8 (sym left_is) run.utf8;
      room = c.in_ok-add_all.ensures.room ∙ ap (λ n. record { items = []; limit = n }) room;
      rests = run.ensures.rests;
      says = subst (λ bs. WillSay g.C.Give.given first run.new.taker fs fault (concat_of (left_of (shown run.new.machine) (to_come ending (placed_characters_from run.new.place (chars bs))))) all) (sym left_is)
          (says_run g.C.Give.given g.met.C.Give.given_both first mid run.new.taker fs fault (shown c.push.new.self) (shown run.new.machine) then run.new.place c.as_str.result.now run.result.now ending all there run.ensures.passes);
      line = let l = ap (λ bs. length bs) left_is in omega (arith, l, text_is, run.ensures.passes.line, fits.0);
      column = let l = ap (λ bs. length bs) left_is in omega (arith, l, text_is, run.ensures.passes.column, fits.1);
    }

pub returns : goal.returns
returns g c =
    let ys = placed_characters_from c.args.start.at (chars c.args.body.now) in
    let all = body_of c.args.limits c.args.start.head c.args.start.findings (place_past c.args.start.at (chars c.args.body.now)) c.args.ending ys (with_first_each [] ys (running_events_left c.args.stage ys)) in
    let i = c.loop-c.invariant in
    let e = c.end_machine.ensures in
    let emitted_now = ap (λ (r : BoundedList ScoreEvent). r.items) (e.emitted.events ∙ ap (λ r. extended_by r (events_of e.outputs)) i.room) in
    let none : chars (chars_rest c.loop-c.chars) ≡ [] = grind (arith, chars-none) in
    let w = subst (λ cs. WillSay g.C.Give.given c.args.taker.now c.loop-c.taker c.loop-c.said.findings c.loop-c.said.fault (concat_of (left_of (shown c.loop-c.machine) (to_come c.args.ending (placed_characters_from c.loop-c.place cs)))) all) none i.says in
    subst (IsSaid g.C.Give.given c.args.taker.now c.add_all-2.new.taker c.add_all-2.new.said.findings c.add_all-2.new.said.fault) (ap (result_with w.so_far) (sym e.law) ∙ w.is)
    (c.in_ok-add_all-2.ensures.result_is e.outputs emitted_now e.emitted.lent c.args.taker.now w.so_far w.said)
