use Rattle.std.proofs.Common.{◌≡◌, ◌==◌, ◌+◌, [], ◌∷◌, length, drop, refl, sym, ap, ◌∙◌, subst, append-nil, arith}
use Rattle.std.specs.Str.{chars, NonePass}
use Rattle.std.specs.Str.Iter.{chars_rest}
use Rattle.std.proofs.lemmas.Str.{chars_past_char}
use Rattle.gabc_places.proofs.texts.CharactersOfStrings.{chars-none}
use Rattle.gabc_text.specs.TextView.{content_of}
use Rattle.gabc_text.specs.View.{bytes_of}
use Rattle.gabc_text.specs.machine.TextStage.{events_of_finish}
use Rattle.gabc_text.specs.machine.BuiltText.{built_text_of}
use Rattle.gabc_text.specs.BuiltText.{with_events}
use Rattle.gabc_text.proofs.machine.LoopOverText.{events_goes, left_goes, left_ends, all_meant, events_ends, text_fits, bytes_chars}
use Rattle.gabc_text.proofs.tokens.PrefixBeforeTag.{none_before, prefix_boundary, prefix_chars, some_prefix, first_boundary, first_chars, bytes_before}
use Rattle.gabc_text.proofs.machine.RawPartIsPassed.{raw_goes}
use Rattle.gabc_text.proofs.whole.text_whole.Goals as goal

pub pass-requires-clause-no_ending : goal.pass-requires-clause-no_ending
pass-requires-clause-no_ending c = grind (arith, none_before)

pub range_from-rest-requires : goal.range_from-rest-requires
range_from-rest-requires c = λ h. prefix_boundary c.loop-c.rest.now c.before_tag-raw.result.now c.loop-c.invariant.utf8 c.before_tag-raw.utf8 c.before_tag-raw.ensures.begins

pub loop-c-smaller-then-is_in_raw : goal.loop-c-smaller-then-is_in_raw
loop-c-smaller-then-is_in_raw c =
    let i = c.loop-c.invariant in
    let step = sym c.chars.ensures.rest ∙ c.in-Some.ensures.steps.0 in
    let past = chars_past_char c.loop-c.rest.now (chars_rest c.next.new.self) c.in-Some.c i.utf8 step in
    omega (arith, c.range_from-rest.ensures.len, some_prefix c.loop-c.rest.now c.before_tag-raw.result.now (chars (chars_rest c.next.new.self)) c.in-Some.c past c.if-c-ne60.true c.before_tag-raw.ensures.prefix)

pub loop-c-preserved-then-is_in_raw : goal.loop-c-preserved-then-is_in_raw
loop-c-preserved-then-is_in_raw c =
    let i = c.loop-c.invariant in
    let none = subst (NonePass (λ x. x == 60)) (sym c.before_tag-raw.ensures.prefix) (none_before (chars c.loop-c.rest.now)) in
    let g = raw_goes (built_text_of c.loop-c.builder) (built_text_of c.pass.new.self) _ c.loop-c.stage c.pass.new.stage (chars c.loop-c.rest.now) (chars c.before_tag-raw.result.now) (chars c.range_from-rest.result.now) _
    (prefix_chars c.loop-c.rest.now c.before_tag-raw.result.now c.range_from-rest.result.now c.before_tag-raw.utf8 c.before_tag-raw.ensures.begins c.range_from-rest.ensures.value)
    (sym c.is_in_raw.ensures ∙ c.if-is_in_raw.true) none c.pass.ensures.stage c.in_ok-pass.ensures.events i.events_same i.left in
    record {
      utf8 = c.range_from-rest.utf8;
      running = g.0;
      events_same = g.1.0;
      left = g.1.1;
      shorter = omega (arith, i.shorter, c.range_from-rest.ensures.len);
      empty = i.empty;
    }

pub range_from-rest-requires-else-c-ne60 : goal.range_from-rest-requires-else-c-ne60
range_from-rest-requires-else-c-ne60 c = grind (arith, first_boundary, chars_rest)

pub loop-c-preserved : goal.loop-c-preserved
loop-c-preserved c =
    let i = c.loop-c.invariant in
    let step = sym c.chars.ensures.rest ∙ c.in-Some.ensures.steps.0 in
    let rest = chars c.range_from-rest-else-c-ne60.result.now in
    let past = first_chars c.loop-c.rest.now (chars_rest c.next.new.self) c.range_from-rest-else-c-ne60.result.now c.in-Some.c i.utf8 step
    (c.range_from-rest-else-c-ne60.ensures.value ∙ ap (λ n. drop n c.loop-c.rest.now) c.len_utf8.ensures.value) in
    record {
      utf8 = c.range_from-rest-else-c-ne60.utf8;
      running = sym c.is_done.ensures ∙ c.if-is_done.false;
      events_same = events_goes (built_text_of c.loop-c.builder) (built_text_of c.feed.new.self) _ c.loop-c.stage c.feed.new.stage c.in-Some.c rest (rw past at i.events_same) c.feed.ensures.stage c.in_ok-feed.ensures.events;
      left = left_goes c.loop-c.stage c.feed.new.stage c.in-Some.c rest _ (rw past at i.left) c.feed.ensures.stage (sym c.is_done.ensures ∙ c.if-is_done.false);
      shorter = omega (arith, i.shorter, c.range_from-rest-else-c-ne60.ensures.len);
      empty = c.in_ok-feed.ensures.room;
    }

pub returns-then-is_done : goal.returns-then-is_done
returns-then-is_done c =
    let i = c.loop-c.invariant in
    let step = sym c.chars.ensures.rest ∙ c.in-Some.ensures.steps.0 in
    let cs = chars (chars_rest c.next.new.self) in
    let past : chars c.loop-c.rest.now ≡ c.in-Some.c ∷ cs = chars_past_char c.loop-c.rest.now (chars_rest c.next.new.self) c.in-Some.c i.utf8 step in
    let fits = text_fits c.args.at c.args.body.now c.utf8.body c.requires.line c.requires.column in
    let done = sym c.is_done.ensures ∙ c.if-is_done.true in
    let events = events_goes (built_text_of c.loop-c.builder) (built_text_of c.feed.new.self) _ c.loop-c.stage c.feed.new.stage c.in-Some.c cs (rw past at i.events_same) c.feed.ensures.stage c.in_ok-feed.ensures.events in
    let index = bytes_before c.args.body.now c.loop-c.rest.now _ c.utf8.body i.utf8 i.shorter refl in
    let m = all_meant c.args.at (chars c.args.body.now) (built_text_of c.feed.new.self) _ (c.in-Some.c ∷ cs) fits
    (events_ends (built_text_of c.feed.new.self) _ c.feed.new.stage cs events done)
    (left_ends c.loop-c.stage c.feed.new.stage c.in-Some.c cs _ (rw past at i.left) c.feed.ensures.stage done)
    (rw past at index) in
    record {
      kept_is = c.into_read.ensures.kept ∙ m.kept_is;
      view_is = ap content_of c.into_read.ensures.view ∙ m.view_is;
      findings_are = c.into_read.ensures.findings ∙ m.findings_are;
      how_is = c.into_read.ensures.how ∙ c.ending_of-how.ensures ∙ m.how_is;
    }

pub returns : goal.returns
returns c =
    let i = c.loop-c.invariant in
    let none : chars c.loop-c.rest.now ≡ [] = chars-none c.loop-c.rest.now (ap length (sym c.chars.ensures.rest) ∙ c.in_default.ensures.steps.0.0) in
    let fits = text_fits c.args.at c.args.body.now c.utf8.body c.requires.line c.requires.column in
    let index : length c.args.body.now + bytes_of [] ≡ bytes_of (chars c.args.body.now) = omega (arith, bytes_chars c.args.body.now c.utf8.body) in
    let m = all_meant c.args.at (chars c.args.body.now) (built_text_of c.close.new.self) _ [] fits
    (c.in_ok-close.ensures ∙ ap (with_events (built_text_of c.loop-c.builder)) (sym (append-nil (events_of_finish c.loop-c.stage))) ∙ (rw none at i.events_same)) (rw none at i.left) index in
    record {
      kept_is = c.into_read-2.ensures.kept ∙ m.kept_is;
      view_is = ap content_of c.into_read-2.ensures.view ∙ m.view_is;
      findings_are = c.into_read-2.ensures.findings ∙ m.findings_are;
      how_is = c.into_read-2.ensures.how ∙ c.ending_of-how-2.ensures ∙ m.how_is;
    }
