use Rattle.std.proofs.Common.{◌≡◌, ℕ, List, IsUtf8, sym, subst, arith, ◌+◌, ◌++◌, length, ap, ◌∙◌, refl}
use Rattle.std.specs.Str.{chars}
use Rattle.std.specs.Str.Iter.{chars_rest}
use Rattle.std.proofs.lemmas.Str.{chars_past_char, IsUtf8-past_char}
use Rattle.gabc_places.specs.StageLaw.{concat_of}
use Rattle.gabc_places.specs.BoundedList.{BoundedList}
use Rattle.gabc_places.specs.Place.{next_place, placed_characters_from}
use Rattle.gabc_places.proofs.PlacesOfAText.{within_on, shorter}
use Rattle.gabc_places.proofs.GatheredOfAText.{gathered-character, gathered-end, emptied}
use Rattle.gabc_places.proofs.texts.CharactersOfStrings.{chars-none}
use Rattle.gabc_places.proofs.TakenInTurn.{TakenTo, none_taken, one_taken, on_the_way, at_the_end}
use Rattle.gabc_places.proofs.collect.outputs_of.Goals as goal

pub loop-c-preserved : goal.loop-c-preserved
loop-c-preserved g c =
    let i = c.loop-c.invariant in
    let step = c.in-Some.ensures.steps.0 in
    let rest = chars_rest c.loop-c.c-iterator in
    let next = chars_rest c.next.new.self in
    let past = chars_past_char rest next c.in-Some.c i.utf8 step in
    let within = within_on c.loop-c.place (length rest) (length next) (c.args.at.line + length c.args.text.now) (c.args.at.column + length c.args.text.now) (shorter rest next c.in-Some.c step) i.line i.column c.in-Some.c c.after-place.result c.after-place.ensures.next in
    record {
      utf8 = IsUtf8-past_char rest next c.in-Some.c i.utf8 step;
      most = emptied c.loop-c.room c.push.new.out c.clear.new.self c.push.ensures.events.events _ _ c.push.ensures.events.out c.clear.ensures i.most c.push.ensures.most;
      empty = ap (λ (r : BoundedList _). r.items) c.clear.ensures;
      all =
          gathered-character c.loop-c.all c.append.new.self (concat_of (g.S.Stage.rest c.args.stage.now (placed_characters_from c.args.at (chars c.args.text.now)))) c.after-place.result (chars rest) (chars next)
          c.push.ensures.events i.empty (c.in_ok-append.ensures.added ∙ ap (λ v. c.loop-c.all ++ v) c.slice.ensures) c.after-place.ensures.next past i.all;
      taken = one_taken (placed_characters_from c.args.at (chars c.args.text.now)) c.after-place.result (chars rest) (chars next) c.push.ensures.events c.after-place.ensures.next past i.taken;
      line = within.0;
      column = within.1;
    }

pub returns-clause-all : goal.returns-clause-all
returns-clause-all g c =
    let i = c.loop-c.invariant in
    gathered-end c.loop-c.all c.append-2.new.self (concat_of (g.S.Stage.rest c.args.stage.now (placed_characters_from c.args.at (chars c.args.text.now)))) c.loop-c.place (chars (chars_rest c.loop-c.c-iterator))
    c.finish.ensures.ends i.empty (c.in_ok-append-2.ensures.added ∙ ap (λ v. c.loop-c.all ++ v) c.slice-2.ensures) (chars-none (chars_rest c.loop-c.c-iterator) c.in-None.ensures.steps.0.0) i.all

pub loop-c-init : goal.loop-c-init
loop-c-init g c =
    let rest = chars_rest c.into_iter-c-iterator.result in
    let whole : rest ≡ c.args.text.now = ap chars_rest c.into_iter-c-iterator.ensures.into_iter_gives ∙ c.chars-c-items.ensures.rest in
    let inputs = placed_characters_from c.args.at (chars c.args.text.now) in
    let size : length rest ≡ length c.args.text.now = ap (length {A = ℕ}) whole in
    record {
      utf8 = subst IsUtf8 (sym whole) c.utf8.text;
      most = ap (λ (r : BoundedList _). r.limit) c.in_ok-room.ensures ∙ c.most.ensures;
      empty = ap (λ (r : BoundedList _). r.items) c.in_ok-room.ensures;
      all = ap (λ v. v ++ concat_of (g.S.Stage.rest c.args.stage.now (placed_characters_from c.args.at (chars rest)))) c.new-all.ensures
          ∙ ap (λ (t : List ℕ). concat_of (g.S.Stage.rest c.args.stage.now (placed_characters_from c.args.at (chars t)))) whole;
      taken = subst (λ (t : List ℕ). TakenTo (g.S.Stage.rest c.args.stage.now) (g.S.Stage.rest c.args.stage.now) inputs (placed_characters_from c.args.at (chars t))) (sym whole) (none_taken (g.S.Stage.rest c.args.stage.now) inputs);
      line = omega (arith, size);
      column = omega (arith, size);
    }

pub returns-in_err-room-clause-left : goal.returns-in_err-room-clause-left
returns-in_err-room-clause-left g c = on_the_way _ _ _ _ _ (none_taken (g.S.Stage.rest c.args.stage.now) (placed_characters_from c.args.at (chars c.args.text.now)))

pub returns-in_err-append-clause-left : goal.returns-in_err-append-clause-left
returns-in_err-append-clause-left g c =
    let i = c.loop-c.invariant in
    let rest = chars_rest c.loop-c.c-iterator in
    let next = chars_rest c.next.new.self in
    on_the_way _ _ _ _ _ (one_taken (placed_characters_from c.args.at (chars c.args.text.now)) (next_place c.loop-c.place c.in-Some.c) (chars rest) (chars next) c.push.ensures.events refl
    (chars_past_char rest next c.in-Some.c i.utf8 c.in-Some.ensures.steps.0) i.taken)

pub returns-in_err-append-2-clause-left : goal.returns-in_err-append-2-clause-left
returns-in_err-append-2-clause-left g c = at_the_end _ (g.S.Stage.rest c.args.stage.now) _ (placed_characters_from c.args.at (chars c.args.text.now)) c.finish.ensures.over
