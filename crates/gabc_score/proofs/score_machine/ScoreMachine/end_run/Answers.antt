use Rattle.std.proofs.Common.{◌∙◌, ap, subst}
use Rattle.gabc_score.specs.declared.preceding.Preceding.{Preceding}
use Rattle.gabc_score.specs.machine.Run.{GoesBefore, before_by}
use Rattle.gabc_score.proofs.runs.RunIsTaken.{cut_before, start_is, within_is, plain_there, next_there, stands_on, rests_after, gives_after}
use Rattle.gabc_score.proofs.score_machine.ScoreMachine.end_run.Goals as goal

pub split_at-requires : goal.split_at-requires
split_at-requires c = cut_before c.args.self.now c.args.at c.args.text.now c.requires.to.0 c.args.reached c.requires.to.1 c.utf8.text

pub read_text_silently-requires : goal.read_text_silently-requires
read_text_silently-requires c =
    let m = c.args.self.now in
    let to = c.requires.to.1 in
    let from_is = start_is m c.args.at c.args.text.now c.requires.to.0 c.args.reached to _ c.place_past-start.result c.place_past-start.ensures.place c.split_at.ensures.front in
    stands_on m c.args.at c.args.text.now c.requires.to.0 c.args.reached to c.place_past-start.result from_is c.a_regular_syllable_goes_through.ensures c.go_before.new.self
    (subst (λ (p : Preceding). GoesBefore m p c.place_past-start.result c.go_before.new.self) (c.preceding-context.ensures ∙ ap (λ (p : Preceding). before_by p c.args.reached) c.after.ensures) c.go_before.ensures)

pub returns : goal.returns
returns c =
    let m = c.args.self.now in
    let first = c.requires.to.0 in
    let to = c.requires.to.1 in
    let on = c.go_before.new.self in
    let read = c.read_text_silently.new.self in
    let goes = subst (λ (p : Preceding). GoesBefore m p c.place_past-start.result on) (c.preceding-context.ensures ∙ ap (λ (p : Preceding). before_by p c.args.reached) c.after.ensures) c.go_before.ensures in
    let law = c.a_regular_syllable_goes_through.ensures in
    let from_is = start_is m c.args.at c.args.text.now first c.args.reached to _ c.place_past-start.result c.place_past-start.ensures.place c.split_at.ensures.front in
    record {
      front = record {
        within = within_is m c.args.at c.args.text.now first c.args.reached to c.utf8.text;
        plain = plain_there m c.args.at c.args.text.now first c.args.reached to;
        next = c.place_past-next.ensures.place ∙ next_there m c.args.at c.args.text.now first c.args.reached to c.place_past-start.result from_is;
      };
      gives = λ given runs.
          let from_is = start_is m c.args.at c.args.text.now given c.args.reached runs _ c.place_past-start.result c.place_past-start.ensures.place c.split_at.ensures.front in
          gives_after m c.args.at c.args.text.now given c.args.reached runs c.place_past-start.result from_is law on goes
          c.read_text_silently.result read c.read_text_silently.ensures c.begin_text.new.self c.begin_text.ensures.counts c.begin_text.ensures.keeps c.place_past-next.result c.place_past-next.ensures.place c.begin_text.ensures.text;
      rests = rests_after m c.args.at c.args.text.now first c.args.reached to c.place_past-start.result from_is law on goes
          c.read_text_silently.result read c.read_text_silently.ensures c.begin_text.new.self c.begin_text.ensures.counts c.begin_text.ensures.keeps c.place_past-next.result c.place_past-next.ensures.place c.begin_text.ensures.text;
    }
