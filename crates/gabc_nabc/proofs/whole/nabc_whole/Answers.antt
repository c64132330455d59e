use Rattle.std.proofs.Common.{◌≡◌, ℕ, [], length, sym, ap, ◌∙◌, arith, ◌+◌, length-append}
use Rattle.std.specs.Str.{chars}
use Rattle.std.specs.Str.Iter.{chars_rest}
use Rattle.std.proofs.lemmas.Str.{chars_past_char, IsUtf8-past_char, encodes-chars, length-encode, IsUtf8-string_bytes}
use lib.Utf8.{encode}
use Rattle.gabc_nabc.specs.machine.BuiltNabc.{built_nabc_of}
use Rattle.gabc_places.proofs.texts.CharactersOfStrings.{chars-none}
use Rattle.gabc_nabc.proofs.machine.LoopOverBody.{goes_on, fits, ends, cut_open, place_fits}
use Rattle.gabc_nabc.proofs.grammar.ReadByRelations.{read_by_relations}
use Rattle.gabc_nabc.proofs.whole.nabc_whole.Goals as goal

pub cut-requires : goal.cut-requires
cut-requires c =
    let i = c.loop-c.invariant in
    let past = chars_past_char (chars_rest c.loop-c.c-iterator) (chars_rest c.next.new.self) c.in-Some.c i.utf8 c.in-Some.ensures.steps.0 in
    let n = ap length (encodes-chars c.args.body.now c.utf8.body) in
    (ends c.args.at (chars c.args.body.now) c.loop-c.yielded (chars (chars_rest c.next.new.self)) c.loop-c.place c.in-Some.c c.loop-c.stage (built_nabc_of c.loop-c.builder) (built_nabc_of c.feed.new.self)
    c.loop-c.index c.in-Some-emitted_end.kept c.in-Some-emitted_end.end (rw past at i.going) c.in_ok-feed.ensures.gathered (sym c.emitted_end.ensures ∙ c.in-Some-emitted_end.is) (IsUtf8-string_bytes c.feed.new.self.kept)
    (omega (arith, n, c.requires.line))).0

pub returns-in-Some-emitted_end : goal.returns-in-Some-emitted_end
returns-in-Some-emitted_end c =
    let i = c.loop-c.invariant in
    let past = chars_past_char (chars_rest c.loop-c.c-iterator) (chars_rest c.next.new.self) c.in-Some.c i.utf8 c.in-Some.ensures.steps.0 in
    let n = ap length (encodes-chars c.args.body.now c.utf8.body) in
    let e = (ends c.args.at (chars c.args.body.now) c.loop-c.yielded (chars (chars_rest c.next.new.self)) c.loop-c.place c.in-Some.c c.loop-c.stage (built_nabc_of c.loop-c.builder) (built_nabc_of c.feed.new.self)
    c.loop-c.index c.in-Some-emitted_end.kept c.in-Some-emitted_end.end (rw past at i.going) c.in_ok-feed.ensures.gathered (sym c.emitted_end.ensures ∙ c.in-Some-emitted_end.is) (IsUtf8-string_bytes c.feed.new.self.kept)
    (omega (arith, n, c.requires.line))).1 in
    read_by_relations c.args.at (chars c.args.body.now) c.into_read.result (record {
      kept_is = c.into_read.ensures.kept ∙ (c.cut.ensures.kept ∙ e.kept_is);
      findings_are = c.into_read.ensures.findings ∙ (c.cut.ensures.findings ∙ e.findings_are);
      how_is = c.into_read.ensures.how ∙ (c.at.ensures ∙ e.how_is);
    })

pub overflow_add-index : goal.overflow_add-index
overflow_add-index c =
    let i = c.loop-c.invariant in
    let past = chars_past_char (chars_rest c.loop-c.c-iterator) (chars_rest c.next.new.self) c.in-Some.c i.utf8 c.in-Some.ensures.steps.0 in
    let f = fits c.args.at (chars c.args.body.now) c.loop-c.yielded (chars (chars_rest c.next.new.self)) c.loop-c.place c.in-Some.c c.loop-c.stage (built_nabc_of c.loop-c.builder) c.loop-c.index (rw past at i.going) in
    let n = ap length (encodes-chars c.args.body.now c.utf8.body) in
    omega (arith, f, n, c.len_utf8-index.ensures.value, c.requires.line)

pub loop-c-preserved : goal.loop-c-preserved
loop-c-preserved c =
    let i = c.loop-c.invariant in
    let step = c.in-Some.ensures.steps.0 in
    let past = chars_past_char (chars_rest c.loop-c.c-iterator) (chars_rest c.next.new.self) c.in-Some.c i.utf8 step in
    let long : length (chars_rest c.loop-c.c-iterator) ≡ c.len_utf8-index.result + length (chars_rest c.next.new.self) =
    ap length step ∙ (length-append (encode c.in-Some.c) (chars_rest c.next.new.self) ∙ ap (λ (n : ℕ). n + length (chars_rest c.next.new.self)) (length-encode c.in-Some.c ∙ sym c.len_utf8-index.ensures.value)) in
    let place = place_fits c.loop-c.place c.after-place.result c.in-Some.c (length (chars_rest c.loop-c.c-iterator)) (length (chars_rest c.next.new.self)) c.len_utf8-index.result
    i.line i.column long c.len_utf8-index.ensures.lower_bound c.after-place.ensures.next in
    record {
      can = tt;
      ends = tt;
      utf8 = IsUtf8-past_char (chars_rest c.loop-c.c-iterator) (chars_rest c.next.new.self) c.in-Some.c i.utf8 step;
      going = goes_on c.args.at (chars c.args.body.now) c.loop-c.yielded (chars (chars_rest c.next.new.self)) c.loop-c.place c.after-place.result c.in-Some.c c.loop-c.stage c.feed.new.stage
          (built_nabc_of c.loop-c.builder) (built_nabc_of c.feed.new.self) c.loop-c.index _ (rw past at i.going) c.feed.ensures.stage c.in_ok-feed.ensures.gathered (sym c.emitted_end.ensures ∙ c.in_default.is) c.after-place.ensures.next
          (ap (λ (n : ℕ). c.loop-c.index + n) c.len_utf8-index.ensures.value);
      line = place.0;
      column = place.1;
      empty = c.in_ok-feed.ensures.room;
    }

pub returns : goal.returns
returns c =
    let i = c.loop-c.invariant in
    let none : chars (chars_rest c.loop-c.c-iterator) ≡ [] = chars-none (chars_rest c.loop-c.c-iterator) c.in-None.ensures.steps.0.0 in
    let e = cut_open c.args.at (chars c.args.body.now) c.loop-c.yielded c.loop-c.place c.loop-c.stage (built_nabc_of c.loop-c.builder) (built_nabc_of c.close.new.self) c.loop-c.index
    (rw none at i.going) c.in_ok-close.ensures in
    read_by_relations c.args.at (chars c.args.body.now) c.into_read-2.result (record {
      kept_is = c.into_read-2.ensures.kept ∙ e.kept_is;
      findings_are = c.into_read-2.ensures.findings ∙ e.findings_are;
      how_is = c.into_read-2.ensures.how ∙ e.how_is;
    })
