use Rattle.std.specs.Option.{unwrap_or}
use Rattle.std.proofs.Common.{◌≡◌, ℕ, Bool, Option, Some, List, ◌+◌, ◌<◌, ◌^◌, ◌∷◌, [], length, length-append, sym, ap, subst, ◌∙◌, arith}
use Rattle.std.specs.Char.{len_utf8}
use Rattle.std.specs.Str.{chars}
use Rattle.std.specs.Str.Iter.{chars_rest}
use Rattle.std.proofs.lemmas.Str.{chars_past_char, IsUtf8-past_char, scalars-chars, length-encode}
use lib.Utf8.{encode, scalars}
use Rattle.gabc_places.specs.declared.place.Char.{Char}
use Rattle.gabc_places.specs.declared.place.Place.{Place}
use Rattle.gabc_places.specs.Place.{next_place, placed_characters_from}
use Rattle.gabc_notes.specs.machine.BuiltSnippet.{BuiltSnippet, built_snippet_of, PushIsAdded, EndIsAdded}
use Rattle.gabc_notes.specs.declared.stage.NoteEnd.{NoteEnd}
use Rattle.gabc_notes.specs.declared.stage.NoteEnd.TheVariants.{Close}
use Rattle.gabc_notes.specs.declared.stage.NoteStage.{NoteStage}
use Rattle.gabc_places.proofs.texts.CharactersOfStrings.{chars-none}
use Rattle.gabc_notes.proofs.machine.LoopOverBody.{Reaches, Stops, reaches_first, reaches_next, stops_at, stops_cut, place_fits, first_scalar}
use Rattle.gabc_notes.proofs.grammar.EmittedByRelations.{relations_emit}
use Rattle.gabc_notes.proofs.grammar.ReadByRelations.{read_by_relations}
use Rattle.gabc_notes.proofs.whole.snippet_whole.Goals as goal

pub loop-c-init : goal.loop-c-init
loop-c-init c =
    let rest : chars_rest c.into_iter-c-iterator.result ≡ c.args.body.now = ap chars_rest c.into_iter-c-iterator.ensures.into_iter_gives ∙ c.chars-c-items.ensures.rest in
    rw rest (record {
      can = tt;
      ends = tt;
      utf8 = c.utf8.body;
      reaches = ([], reaches_first c.args.split c.args.macros (placed_characters_from c.args.at (chars c.args.body.now)) c.new-stage.result (built_snippet_of c.new-builder.result) (λ xs. relations_emit c.args.split c.args.macros xs _ (c.new-stage.ensures.events xs)) c.new-builder.ensures);
      line = c.requires.line;
      column = c.requires.column;
      index = omega arith;
      empty = c.in_ok-room.ensures;
    })

pub loop-c-preserved : goal.loop-c-preserved
loop-c-preserved c =
    let i = c.loop-c.invariant in
    let step = c.in-Some.ensures.steps.0 in
    let past = chars_past_char (chars_rest c.loop-c.c-iterator) (chars_rest c.next.new.self) c.in-Some.c i.utf8 step in
    let less : length (chars_rest c.loop-c.c-iterator) ≡ len_utf8 c.in-Some.c + length (chars_rest c.next.new.self) =
    ap (λ (t : List ℕ). length t) step ∙ (length-append (encode c.in-Some.c) (chars_rest c.next.new.self) ∙ ap (λ (n : ℕ). n + length (chars_rest c.next.new.self)) (length-encode c.in-Some.c)) in
    let size : c.len_utf8-index.result ≡ len_utf8 c.in-Some.c = c.len_utf8-index.ensures.len ∙ length-encode c.in-Some.c in
    let fits = place_fits c.loop-c.place c.in-Some.c (length (chars_rest c.loop-c.c-iterator)) (length (chars_rest c.next.new.self)) i.line i.column (omega (arith, less, size, c.len_utf8-index.ensures.lower_bound)) in
    record {
      can = tt;
      ends = tt;
      utf8 = IsUtf8-past_char (chars_rest c.loop-c.c-iterator) (chars_rest c.next.new.self) c.in-Some.c i.utf8 step;
      reaches = (
        record { c = c.in-Some.c; place = c.loop-c.place } ∷ i.reaches.0,
        rw c.after-place.ensures.next (reaches_next c.args.split c.args.macros (placed_characters_from c.args.at (chars c.args.body.now)) i.reaches.0
            (placed_characters_from (next_place c.loop-c.place c.in-Some.c) (chars (chars_rest c.next.new.self))) (record { c = c.in-Some.c; place = c.loop-c.place })
            c.loop-c.stage c.feed.new.stage (built_snippet_of c.loop-c.builder) (built_snippet_of c.feed.new.self) c.loop-c.index _
            (rw past at i.reaches.1) c.in_ok-feed.ensures.fed c.in_default.is
            (first_scalar c.in-Some.c (chars (chars_rest c.next.new.self)) (ap scalars (sym past) ∙ scalars-chars (chars_rest c.loop-c.c-iterator) i.utf8))
            (ap (λ (n : ℕ). c.loop-c.index + n) size)),
      );
      line = rw c.after-place.ensures.next fits.0;
      column = rw c.after-place.ensures.next fits.1;
      index = omega (arith, less, size, i.index);
      empty = c.in_ok-feed.ensures.room;
    }

-- at the mark that ends the snippet
at_mark : {split : Bool} {macros : ℕ} {all : List Char} {place : Place} {c : ℕ} {cs rest : List ℕ} {stage next : NoteStage} {h after : BuiltSnippet} {index : ℕ}
    → (reached : (back : List Char) × Reaches split macros all back (placed_characters_from place rest) stage h index) → rest ≡ c ∷ cs
    → PushIsAdded stage next (record { c = c; place = place }) h after → (how : NoteEnd) (bytes : ℕ) → after.end ≡ Some (how, bytes) → index < 2 ^ 64
    → Stops split macros all after how bytes index
at_mark {split} {macros} {all} {place} {c} {cs} {rest} {stage} {next} {h} {after} {index} r e f how bytes g l =
    stops_at split macros all r.0 (placed_characters_from (next_place place c) cs) (record { c = c; place = place }) stage next h after index bytes how
    (subst (λ (t : List ℕ). Reaches split macros all r.0 (placed_characters_from place t) stage h index) e r.1) f g l

-- at the end of the body
at_end : (place : Place) (rest : List ℕ) {split : Bool} {macros : ℕ} {all : List Char} {stage : NoteStage} {h after : BuiltSnippet} {index : ℕ}
    → (reached : (back : List Char) × Reaches split macros all back (placed_characters_from place rest) stage h index) → rest ≡ []
    → EndIsAdded stage h after → index < 2 ^ 64 → (end : NoteEnd × ℕ) → end ≡ unwrap_or after.end (Close, 0)
    → Stops split macros all after end.0 end.1 index
at_end place rest {split} {macros} {all} {stage} {h} {after} {index} r e f l end g =
    let y = stops_cut split macros all r.0 stage h after index (subst (λ (t : List ℕ). Reaches split macros all r.0 (placed_characters_from place t) stage h index) e r.1) f l in
    let same : end ≡ (y.0, y.1) = g ∙ ap (λ (o : Option (NoteEnd × ℕ)). unwrap_or o (Close, 0)) y.2 in
    subst (λ (p : NoteEnd × ℕ). Stops split macros all after p.0 p.1 index) (sym same) y.3

pub into_read-requires : goal.into_read-requires
into_read-requires c =
    let i = c.loop-c.invariant in
    let past = chars_past_char (chars_rest c.loop-c.c-iterator) (chars_rest c.next.new.self) c.in-Some.c i.utf8 c.in-Some.ensures.steps.0 in
    (at_mark i.reaches past c.in_ok-feed.ensures.fed c.in-Some-end.end c.in-Some-end.bytes c.in-Some-end.is (omega (arith, i.index, c.requires.line))).splits

pub returns-in-Some-end : goal.returns-in-Some-end
returns-in-Some-end c =
    let i = c.loop-c.invariant in
    let past = chars_past_char (chars_rest c.loop-c.c-iterator) (chars_rest c.next.new.self) c.in-Some.c i.utf8 c.in-Some.ensures.steps.0 in
    let s = at_mark i.reaches past c.in_ok-feed.ensures.fed c.in-Some-end.end c.in-Some-end.bytes c.in-Some-end.is (omega (arith, i.index, c.requires.line)) in
    read_by_relations c.args.at c.args.split c.args.macros (chars c.args.body.now) c.into_read.result (record {
      kept_is = c.into_read.ensures.kept ∙ s.kept_is;
      findings_are = c.into_read.ensures.findings ∙ s.findings_are;
      how_is = c.into_read.ensures.how ∙ (c.at.ensures ∙ s.how_is);
    })

pub into_read-requires-2 : goal.into_read-requires-2
into_read-requires-2 c =
    let i = c.loop-c.invariant in
    let none = chars-none (chars_rest c.loop-c.c-iterator) c.in-None.ensures.steps.0.0 in
    (at_end c.loop-c.place (chars (chars_rest c.loop-c.c-iterator)) i.reaches none c.in_ok-close.ensures (omega (arith, i.index, c.requires.line)) c.unwrap_or-end.result c.unwrap_or-end.ensures).splits

pub returns : goal.returns
returns c =
    let i = c.loop-c.invariant in
    let none = chars-none (chars_rest c.loop-c.c-iterator) c.in-None.ensures.steps.0.0 in
    let s = at_end c.loop-c.place (chars (chars_rest c.loop-c.c-iterator)) i.reaches none c.in_ok-close.ensures (omega (arith, i.index, c.requires.line)) c.unwrap_or-end.result c.unwrap_or-end.ensures in
    read_by_relations c.args.at c.args.split c.args.macros (chars c.args.body.now) c.into_read-2.result (record {
      kept_is = c.into_read-2.ensures.kept ∙ s.kept_is;
      findings_are = c.into_read-2.ensures.findings ∙ s.findings_are;
      how_is = c.into_read-2.ensures.how ∙ (c.at-2.ensures ∙ s.how_is);
    })
