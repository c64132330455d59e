use Rattle.std.proofs.Common.{◌≡◌, ℕ, List, ◌+◌, ◌++◌, [], ◌∷◌, length, length-append, sym, ap, ◌∙◌, arith, take}
use Rattle.std.specs.Char.{len_utf8}
use Rattle.std.specs.Str.{chars}
use Rattle.std.specs.Str.Iter.{chars_rest}
use Rattle.std.proofs.lemmas.Str.{chars_past_char, IsUtf8-past_char, length-encode, len_utf8_bounds}
use lib.Utf8.{encode}
use Rattle.gabc_places.specs.declared.place.Char.{Char}
use Rattle.gabc_places.specs.BoundedList.{BoundedList, extended_by}
use Rattle.gabc_places.specs.StageLaw.{concat_of}
use Rattle.gabc_places.specs.Place.{next_place, placed_characters_from}
use Rattle.gabc_notes.specs.SnippetRead.{kept_chars_of}
use Rattle.gabc_notes.specs.declared.stage.NoteEvent.{NoteEvent}
use Rattle.gabc_places.proofs.texts.CharactersOfStrings.{chars-none}
use Rattle.gabc_notes.proofs.KeptChars.{driven, full, no_longer, none_pushed, added_alone}
use Rattle.gabc_notes.proofs.machine.LoopOverBody.{place_fits}
use Rattle.gabc_notes.proofs.chars.kept_chars_by.Goals as goal

pub loop-c-preserved : goal.loop-c-preserved
loop-c-preserved g c =
    let i = c.loop-c.invariant in
    let step = c.in-Some.ensures.steps.0 in
    let past = chars_past_char (chars_rest c.loop-c.c-iterator) (chars_rest c.next.new.self) c.in-Some.c i.utf8 step in
    let less : length (chars_rest c.loop-c.c-iterator) ≡ len_utf8 c.in-Some.c + length (chars_rest c.next.new.self) =
    ap (λ (t : List ℕ). length t) step ∙ (length-append (encode c.in-Some.c) (chars_rest c.next.new.self) ∙ ap (λ (n : ℕ). n + length (chars_rest c.next.new.self)) (length-encode c.in-Some.c)) in
    let fits = place_fits c.loop-c.place c.in-Some.c (length (chars_rest c.loop-c.c-iterator)) (length (chars_rest c.next.new.self)) i.line i.column (omega (arith, less, (len_utf8_bounds c.in-Some.c).0)) in
    let pushed = c.push.ensures.events in
    let events : c.slice.result.now ≡ pushed.events = c.slice.ensures ∙ added_alone c.loop-c.room c.push.new.out pushed.events (ap (λ (h : BoundedList NoteEvent). h.items) i.room) pushed.out in
    let later : List (List NoteEvent) = g.S.Stage.rest c.push.new.self (placed_characters_from (next_place c.loop-c.place c.in-Some.c) (chars (chars_rest c.next.new.self))) in
    let before : List (List NoteEvent) = g.S.Stage.rest c.loop-c.stage (placed_characters_from c.loop-c.place (chars (chars_rest c.loop-c.c-iterator))) in
    let law : before ≡ pushed.events ∷ later =
    ap (λ (t : List ℕ). g.S.Stage.rest c.loop-c.stage (placed_characters_from c.loop-c.place t)) past ∙ pushed.law (placed_characters_from (next_place c.loop-c.place c.in-Some.c) (chars (chars_rest c.next.new.self))) in
    let total : List Char = take c.characters-count.result (kept_chars_of (concat_of (g.S.Stage.rest c.args.stage (placed_characters_from c.args.at (chars c.args.body.now))))) in
    let now = c.in_ok-add_all_kept.ensures ∙ ap (λ (l : List NoteEvent). take c.characters-count.result (c.loop-c.found ++ kept_chars_of l)) events in
    record {
      can = tt;
      ends = tt;
      utf8 = IsUtf8-past_char (chars_rest c.loop-c.c-iterator) (chars_rest c.next.new.self) c.in-Some.c i.utf8 step;
      few = no_longer c.characters-count.result c.add_all_kept.new.kept _ c.in_ok-add_all_kept.ensures;
      law = rw c.after-place.ensures.next (driven {total = total} c.loop-c.found c.characters-count.result before later law now i.law);
      line = rw c.after-place.ensures.next fits.0;
      column = rw c.after-place.ensures.next fits.1;
      most = c.push.ensures.most ∙ i.most;
      room = c.clear.ensures ∙ ap (λ (h : BoundedList NoteEvent). record h { items = [] }) (pushed.out ∙ ap (λ (h : BoundedList NoteEvent). extended_by h pushed.events) i.room);
    }

pub returns : goal.returns
returns g c =
    let i = c.loop-c.invariant in
    let none : chars (chars_rest c.loop-c.c-iterator) ≡ [] = chars-none (chars_rest c.loop-c.c-iterator) c.in-None.ensures.steps.0.0 in
    let ends = c.finish.ensures.ends in
    let events : c.slice-2.result.now ≡ ends.events = c.slice-2.ensures ∙ added_alone c.loop-c.room c.finish.new.out ends.events (ap (λ (h : BoundedList NoteEvent). h.items) i.room) ends.out in
    let before : List (List NoteEvent) = g.S.Stage.rest c.loop-c.stage (placed_characters_from c.loop-c.place (chars (chars_rest c.loop-c.c-iterator))) in
    let law : before ≡ ends.events ∷ [] = ap (λ (t : List ℕ). g.S.Stage.rest c.loop-c.stage (placed_characters_from c.loop-c.place t)) none ∙ ends.law in
    let now = c.in_ok-add_all_kept-2.ensures ∙ ap (λ (l : List NoteEvent). take c.characters-count.result (c.loop-c.found ++ kept_chars_of l)) events in
    let all = driven c.loop-c.found c.characters-count.result before [] law now i.law in
    none_pushed c.characters-count.result c.add_all_kept-2.new.kept (no_longer c.characters-count.result c.add_all_kept-2.new.kept _ c.in_ok-add_all_kept-2.ensures) ∙ (sym all ∙ ap (λ (n : ℕ). take n (kept_chars_of (concat_of (g.S.Stage.rest c.args.stage (placed_characters_from c.args.at (chars c.args.body.now)))))) c.characters-count.ensures)

pub returns-then-len-count : goal.returns-then-len-count
returns-then-len-count g c = grind (arith, full)
