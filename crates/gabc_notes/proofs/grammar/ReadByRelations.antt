-- What is read of a text by relations over the whole of it is what is computed character by character.
use mathlib.Core.List.{reverse_aux}
use lib.Utf8.{encodes}
use Rattle.std.proofs.Common.{◌≡◌, ℕ, ◌+◌, List, [], ◌∷◌, ◌++◌, Bool, true, false, cond, not, ◌&&◌, ◌||◌, ◌==◌, ◌⊎◌, inl, inr, refl, sym, ap, ◌∙◌, subst, length, drop, Option, Some, None, append-nil, append_assoc, eqb-true, arith}
use Rattle.std.proofs.Math.Bool.{or-true}
use Rattle.std.specs.Prelude.{reverse, sum_by, string_bytes}
use Rattle.std.specs.Char.{len_utf8}
use Rattle.std.specs.List.{fold}
use Rattle.std.proofs.Math.Seq.{drop-append_seam}
use Rattle.std.proofs.lemmas.List.{reverse-reverse}
use Rattle.std.proofs.lemmas.Grind.{reverse_onto}
use Rattle.std.proofs.lemmas.Bool.{not-true, false_from_ne_true, and_parts, or_cases}
use Rattle.gabc_places.specs.declared.code.Code.TheVariants.{E6, W10}
use Rattle.gabc_places.specs.declared.code.Finding.{Finding}
use Rattle.gabc_places.specs.declared.place.Char.{Char}
use Rattle.gabc_places.specs.declared.place.Place.{Place}
use Rattle.gabc_places.specs.Place.{placed_characters_from}
use Rattle.gabc_places.specs.StageLaw.{concat_of}
use Rattle.gabc_patterns.specs.LongestItems.{IsSnippet}
use Rattle.gabc_patterns.specs.Derivative.{is_snippet}
use Rattle.gabc_patterns.specs.Function.{trim}
use Rattle.gabc_patterns.proofs.FunctionsMeetRelations.{trim_trims, trims_is, no_snippet}
use Rattle.gabc_patterns.proofs.LongestMunchByCharacter.{snippet_from}
use Rattle.gabc_notes.specs.Table.{gabc}
use Rattle.gabc_notes.specs.Events.{in_raw, kept, is_comment, is_fused, opener, end_by_mark, is_end, is_over, at_end, events_at, note_events_after, note_events}
use Rattle.gabc_notes.specs.FoundAt.{AreThoseFound}
use Rattle.gabc_notes.specs.SnippetRead.{SnippetStop, findings_of, stop_after, kept_by, index_of, ending_at, ending_by, IsComputed}
use Rattle.gabc_notes.specs.NotesRead.{Marked, IsKeptOf, IsFused, AreFound, IsEnd, AreFoundAtEnd, IsCutAt, IsRead, IsSnippetRead}
use Rattle.gabc_notes.specs.declared.snippet_read.SnippetEnding.TheVariants as snippet_ending
use Rattle.gabc_notes.specs.declared.snippet_read.SnippetRead.{SnippetRead}
use Rattle.gabc_notes.specs.declared.stage.NoteEvent.{NoteEvent}
use Rattle.gabc_notes.proofs.FoundOnce.{found_once}
use Rattle.gabc_notes.proofs.grammar.CharactersByRelations.{marks, chars_of, chars_marks, marks_cut, marked_only, are_marked, remark, kept_keeps, kept_only, raw_to, raw_from, no_raw_to, no_raw_from, comment_to, comment_from, fused_to, fused_from, opener_is, opener_only}
use Rattle.gabc_notes.proofs.grammar.LawsOfEventsByPoint.{over_joined, cut_outs, more_over}
use Rattle.gabc_notes.proofs.machine.LoopOverBody.{findings_append, is_emitted}
use Rattle.gabc_notes.proofs.machine.OneCharacterMore.{point}
use Rattle.gabc_notes.proofs.grammar.FindingsByRelations.{Found, found_here, one_found}

-- ---- the end

pub end_to : (split : Bool) (back : List Char) (x : Char) → is_end split (point back x) ≡ true → IsEnd split (marks back) x
end_to split back x e =
    let f = and_parts (not (is_comment (point back x))) (not (in_raw (kept back)) && ((x.c == 41) || (split && (x.c == 124)))) e in
    let g = and_parts (not (in_raw (kept back))) ((x.c == 41) || (split && (x.c == 124))) f.1 in
    record {
      mark = elim (or_cases (x.c == 41) (split && (x.c == 124)) g.1) [
        | inl h ↦ inl (eqb-true x.c 41 h)
        | inr h ↦ (let i = and_parts split (x.c == 124) h in inr (i.0, eqb-true x.c 124 i.1))
      ];
      no_comment = λ i. (let a = comment_from back x false i in let b = not-true (is_comment (point back x)) f.0 in absurd (cc));
      no_raw = no_raw_to back (not-true (in_raw (kept back)) g.0);
    }

pub end_from : (split : Bool) (back : List Char) (x : Char) → IsEnd split (marks back) x → is_end split (point back x) ≡ true
unfolding marks
end_from split back x h =
    let quiet : is_comment (point back x) ≡ false = false_from_ne_true (is_comment (point back x)) (λ e. h.no_comment (remark x (is_comment (point back x)) false (marks back) (comment_to back x e))) in
    ap (λ (b : Bool). not b && (not (in_raw (kept back)) && ((x.c == 41) || (split && (x.c == 124))))) quiet
    ∙ (ap (λ (b : Bool). not b && ((x.c == 41) || (split && (x.c == 124)))) (no_raw_from back h.no_raw) ∙ go h.mark)
  where
    go : (x.c ≡ 41) ⊎ ((split ≡ true) × (x.c ≡ 124)) → ((x.c == 41) || (split && (x.c == 124))) ≡ true
    go h = grind arith

over_from : (split : Bool) (after before : List Char) (x : Char) → is_end split (point before x) ≡ true → is_over split (after ++ x ∷ before) ≡ true
over_from split [] before x e = ap (λ (b : Bool). b || is_over split before) e
over_from split (y ∷ after) before x e = ap (λ (b : Bool). is_end split (point (after ++ x ∷ before) y) || b) (over_from split after before x e) ∙ or-true (is_end split (point (after ++ x ∷ before) y))

tail_is : (before : List Marked) (m : Marked) → m ∷ before ≡ marks (chars_of (m ∷ before)) → before ≡ marks (chars_of before)
unfolding marks
tail_is before m e = cc

-- nothing in a text that is not over ends it
none_ends : (split : Bool) (back : List Char) → is_over split back ≡ false → (after before : List Marked) (m : Marked) → marks back ≡ after ++ m ∷ before → ¬ IsEnd split before m.0
none_ends split back o after before m e h =
    let c = marks_cut back after (m ∷ before) e in
    let same : before ≡ marks (chars_of before) = tail_is before m c.1 in
    let over = over_from split (chars_of after) (chars_of before) m.0 (end_from split (chars_of before) m.0 (subst (λ (u : List Marked). IsEnd split u m.0) same h)) in
    let f = ap (is_over split) c.0 in
    absurd (cc)

pub none_over : (split : Bool) (back : List Char) → ((after before : List Marked) (m : Marked) → marks back ≡ after ++ m ∷ before → ¬ IsEnd split before m.0) → is_over split back ≡ false
unfolding marks
none_over split [] h = refl
none_over split (x ∷ back) h =
    ap (λ (b : Bool). b || is_over split back) (false_from_ne_true (is_end split (point back x)) (λ e. h [] (marks back) (x, is_comment (point back x)) refl (end_to split back x e)))
    ∙ none_over split back (λ after before m e. h ((x, is_comment (point back x)) ∷ after) before m (ap (λ (u : List Marked). (x, is_comment (point back x)) ∷ u) e))

-- ---- the snippet and what follows it

-- the mark with which the rest begins
abbrev mark_of : List Char → Option ℕ
mark_of [] = None
mark_of (x ∷ rest) = Some x.c

-- what is found at it
abbrev endings : List Char → List Char → List Finding
endings back [] = []
endings back (x ∷ rest) = findings_of (at_end (point back x))

-- it ends the snippet
abbrev StopsAt : Bool → List Char → List Char → Type 0
StopsAt split back [] = Unit {0}
StopsAt split back (x ∷ rest) = is_end split (point back x) ≡ true

-- The characters xs after those, up to the mark that ends the snippet, where that was found before.
record Split (split : Bool) (macros : ℕ) (back xs : List Char) (before : List Finding) : Type 0 where
  after : List Char
  rest : List Char
  found : List Finding
  cut : reverse_aux back xs ≡ reverse_aux after rest
  running : is_over split after ≡ false
  finds : AreFound macros (marks after) found
  all : before ++ findings_of (concat_of (note_events_after split macros back xs)) ≡ found ++ endings after rest
  stop : stop_after split back xs ≡ record { back = after; mark = mark_of rest }
  mark : StopsAt split after rest

found_more : (split : Bool) (macros : ℕ) (back : List Char) (x : Char) (before : List Finding) → AreFound macros (marks back) before
    → AreThoseFound (Found macros back x) (findings_of (events_at split macros (point back x))) → AreFound macros (marks (x ∷ back)) (before ++ findings_of (events_at split macros (point back x)))
unfolding marks
found_more split macros back x before h f = (before, findings_of (events_at split macros (point back x)), refl, h, f)

split_on : (split : Bool) (macros : ℕ) (back xs : List Char) (before : List Finding) → is_over split back ≡ false → AreFound macros (marks back) before → Split split macros back xs before
split_on split macros back [] before o h = record {
  after = back;
  rest = [];
  found = before;
  cut = refl;
  running = o;
  finds = h;
  all = ap (λ (l : List NoteEvent). before ++ findings_of (l ++ [])) (cut_outs split back o);
  stop = refl;
  mark = tt;
}
split_on split macros back (x ∷ xs) before o h = go (is_emitted split macros back x o) (λ b p g. split_on split macros (x ∷ back) xs b p g)
  where
    go : (is_end split (point back x) ≡ false) ⊎ ((is_end split (point back x) ≡ true) × (events_at split macros (point back x) ≡ at_end (point back x)))
        → ((b : List Finding) → is_over split (x ∷ back) ≡ false → AreFound macros (marks (x ∷ back)) b → Split split macros (x ∷ back) xs b) → Split split macros back (x ∷ xs) before
    go (inl n) F =
        let here : List Finding = findings_of (events_at split macros (point back x)) in
        let s = F (before ++ here) (more_over split back x false o n) (found_more split macros back x before h (found_here split macros back x o n)) in
        record {
          after = s.after;
          rest = s.rest;
          found = s.found;
          cut = s.cut;
          running = s.running;
          finds = s.finds;
          all = ap (λ (u : List Finding). before ++ u) (findings_append (events_at split macros (point back x)) (concat_of (note_events_after split macros (x ∷ back) xs)))
              ∙ (sym (append_assoc before here (findings_of (concat_of (note_events_after split macros (x ∷ back) xs)))) ∙ s.all);
          stop = ap (λ (b : Bool). cond b (record { back = back; mark = Some x.c }) (stop_after split (x ∷ back) xs)) n ∙ s.stop;
          mark = s.mark;
        }
    go (inr n) F = record {
      after = back;
      rest = x ∷ xs;
      found = before;
      cut = refl;
      running = o;
      finds = h;
      all = ap (λ (u : List Finding). before ++ u)
          (ap (λ (l : List NoteEvent). findings_of (events_at split macros (point back x) ++ l)) (over_joined split macros (x ∷ back) xs (more_over split back x true o n.0))
          ∙ ap findings_of (append-nil (events_at split macros (point back x)) ∙ n.1));
      stop = ap (λ (b : Bool). cond b (record { back = back; mark = Some x.c }) (stop_after split (x ∷ back) xs)) n.0;
      mark = n.0;
    }

-- the first end is the one with which the rest begins
over_on : (split : Bool) (back xs : List Char) → is_over split back ≡ true → is_over split (reverse_aux xs back) ≡ true
over_on split back [] o = o
over_on split back (x ∷ xs) o = over_on split (x ∷ back) xs (ap (λ (b : Bool). is_end split (point back x) || b) o ∙ or-true (is_end split (point back x)))

stop_is : (split : Bool) (back xs rest : List Char) → is_over split (reverse_aux xs back) ≡ false → StopsAt split (reverse_aux xs back) rest
    → stop_after split back (xs ++ rest) ≡ record { back = reverse_aux xs back; mark = mark_of rest }
stop_is split back [] [] o m = refl
stop_is split back [] (x ∷ rest) o m = ap (λ (b : Bool). cond b (record { back = back; mark = Some x.c }) (stop_after split (x ∷ back) rest)) m
stop_is split back (x ∷ xs) rest o m = grind (arith, point, false_from_ne_true, over_on, stop_is split (x ∷ back) xs rest o m)

aux_append : (xs ys : List Char) → reverse_aux xs ys ≡ reverse xs ++ ys
aux_append xs [] = sym (append-nil (reverse xs))
aux_append xs (y ∷ ys) = reverse_onto xs y ys

-- ---- what is found at the mark

unfinished_at : List Char → Char → List Finding
unfinished_at back x = cond (is_snippet gabc (kept back)) [] (record { place = x.place; code = E6 } ∷ [])

fused_at : List Char → Char → List Finding
fused_at back x = cond (is_fused back) (record { place = x.place; code = W10 } ∷ []) []

endings_are : (back : List Char) (x : Char) → findings_of (at_end (point back x)) ≡ unfinished_at back x ++ fused_at back x
unfolding unfinished_at fused_at
endings_are back x = grind arith

is_unfinished_at : (back : List Char) (x : Char) → AreThoseFound (λ f. (f ≡ record { place = x.place; code = E6 }) × (¬ IsSnippet gabc (kept back))) (unfinished_at back x)
unfolding unfinished_at
is_unfinished_at back x = grind (arith, snippet_from, no_snippet)

is_fused_at : (back : List Char) (x : Char) → AreThoseFound (λ f. (f ≡ record { place = x.place; code = W10 }) × IsFused (marks back)) (fused_at back x)
unfolding fused_at
is_fused_at back x = grind (arith, fused_to, fused_from)

pub end_found : (back : List Char) (x : Char) → AreFoundAtEnd (marks back) (kept back) x (findings_of (at_end (point back x)))
end_found back x = grind (arith, is_unfinished_at, is_fused_at, endings_are)

pub end_found_only : (back : List Char) (x : Char) (text : List ℕ) (fs : List Finding) → text ≡ kept back → AreFoundAtEnd (marks back) text x fs → fs ≡ findings_of (at_end (point back x))
end_found_only back x text fs same i =
    let a = found_once (λ f. (f ≡ record { place = x.place; code = E6 }) × (¬ IsSnippet gabc text)) (λ f g u v. u.0 ∙ sym v.0) i.unfinished (unfinished_at back x) i.is_unfinished
    (subst (λ (k : List ℕ). AreThoseFound (λ f. (f ≡ record { place = x.place; code = E6 }) × (¬ IsSnippet gabc k)) (unfinished_at back x)) (sym same) (is_unfinished_at back x)) in
    let b = found_once (λ f. (f ≡ record { place = x.place; code = W10 }) × IsFused (marks back)) (λ f g u v. u.0 ∙ sym v.0) i.fused (fused_at back x) i.is_fused (is_fused_at back x) in
    i.all ∙ (ap (λ (u : List Finding). u ++ i.fused) a ∙ (ap (λ (u : List Finding). unfinished_at back x ++ u) b ∙ sym (endings_are back x)))

-- ---- how it ends

sum_from : (n : ℕ) (back : List Char) → fold (λ (a : ℕ) (m : Marked). a + len_utf8 m.0.c) n (marks back) ≡ fold (λ (a : ℕ) (x : Char). a + len_utf8 x.c) n back
unfolding marks
sum_from n [] = refl
sum_from n (x ∷ back) = sum_from (n + len_utf8 x.c) back

bytes_marks : (back : List Char) → sum_by (λ (m : Marked). len_utf8 m.0.c) (marks back) ≡ index_of back
bytes_marks back = sum_from 0 back

ends_as : (n c : ℕ) → ending_at (end_by_mark c) n ≡ cond (c == 124) (snippet_ending.Next n) (snippet_ending.Close n)
ends_as n c = grind arith

pub cut_at : (back : List Char) → IsCutAt (marks back) (cond (in_raw (kept back)) (opener back) (record { line = 0; column = 0 }))
cut_at back = grind (arith, raw_to, opener_is, no_raw_to)

pub cut_only : (back : List Char) (p : Place) → IsCutAt (marks back) p → p ≡ cond (in_raw (kept back)) (opener back) (record { line = 0; column = 0 })
cut_only back p h = grind (arith, opener_only, raw_from, no_raw_from)

-- ---- both ways

pub read_by_relations : (at : Place) (split : Bool) (macros : ℕ) (t : List ℕ) (r : SnippetRead) → IsComputed at split macros t r → IsSnippetRead at split macros t r
unfolding marks note_events
read_by_relations at split macros t r h =
    let s = split_on split macros [] (placed_characters_from at t) [] refl refl in
    record {
      back = marks s.after;
      rest = s.rest;
      cut = s.cut ∙ (aux_append s.after s.rest ∙ ap (λ (u : List Char). reverse u ++ s.rest) (sym (chars_marks s.after)));
      marked = are_marked s.after;
      unended = none_ends split s.after s.running;
      kept = kept s.after;
      keeps = kept_keeps s.after;
      found = s.found;
      finds = s.finds;
      is_read = go s.after s.rest s.found s.mark
          (h.kept_is ∙ ap (λ (p : SnippetStop). encodes (kept_by p.mark p.back)) s.stop)
          (h.findings_are ∙ s.all)
          (h.how_is ∙ ap (λ (p : SnippetStop). ending_by p.mark p.back) s.stop);
    }
  where
    go : (back rest : List Char) (found : List Finding) → StopsAt split back rest → string_bytes r.kept ≡ encodes (kept_by (mark_of rest) back)
        → r.findings ≡ found ++ endings back rest → r.how ≡ ending_by (mark_of rest) back → IsRead split (marks back) (kept back) found rest r
    go back [] found m k f w = (k, f ∙ append-nil found, (cond (in_raw (kept back)) (opener back) (record { line = 0; column = 0 }), cut_at back, w))
    go back (x ∷ rest) found m k f w = record {
      mark = end_to split back x m;
      whole = trim gabc (kept back);
      trims = trim_trims gabc refl (kept back);
      last = findings_of (at_end (point back x));
      is_last = end_found back x;
      kept_is = k;
      findings_are = f;
      how_is = w ∙ (ends_as (index_of back) x.c ∙ ap (λ (n : ℕ). cond (x.c == 124) (snippet_ending.Next n) (snippet_ending.Close n)) (sym (bytes_marks back)));
    }

-- the snippet stops where the rest begins
stops : (split : Bool) (back rest : List Char) (text : List ℕ) (found : List Finding) (r : SnippetRead) → IsRead split (marks back) text found rest r → StopsAt split back rest
stops split back rest text found r i = grind (arith, end_from)

stop_read : (split : Bool) (xs back rest : List Char) → xs ≡ reverse back ++ rest → is_over split back ≡ false → StopsAt split back rest
    → stop_after split [] xs ≡ record { back = back; mark = mark_of rest }
stop_read split xs back rest cut o m = grind (arith, reverse-reverse, stop_is)

pub back_is : (at : Place) (split : Bool) (macros : ℕ) (t : List ℕ) (r : SnippetRead) (h : IsSnippetRead at split macros t r) → h.back ≡ marks (stop_after split [] (placed_characters_from at t)).back
back_is at split macros t r h =
    let e = marked_only h.back h.marked in
    let back : List Char = chars_of h.back in
    let over = none_over split back (subst (λ (u : List Marked). (after before : List Marked) (m : Marked) → u ≡ after ++ m ∷ before → ¬ IsEnd split before m.0) e h.unended) in
    let mark = stops split back h.rest h.kept h.found r (subst (λ (u : List Marked). IsRead split u h.kept h.found h.rest r) e h.is_read) in
    e ∙ ap marks (sym (ap (λ (p : SnippetStop). p.back) (stop_read split (placed_characters_from at t) back h.rest h.cut over mark)))

-- a reading whose characters are marked by what is computed
computed : (at : Place) (split : Bool) (macros : ℕ) (t : List ℕ) (r : SnippetRead) (back rest : List Char) (text : List ℕ) (found : List Finding)
    → placed_characters_from at t ≡ reverse back ++ rest → ((after before : List Marked) (m : Marked) → marks back ≡ after ++ m ∷ before → ¬ IsEnd split before m.0)
    → IsKeptOf (marks back) text → AreFound macros (marks back) found → IsRead split (marks back) text found rest r → IsComputed at split macros t r
unfolding note_events marks
computed at split macros t r back rest text found cut unended keeps finds read =
    let s = split_on split macros [] (placed_characters_from at t) [] refl refl in
    let stop = stop_read split (placed_characters_from at t) back rest cut (none_over split back unended) (stops split back rest text found r read) in
    let same : s.after ≡ back = ap (λ (p : SnippetStop). p.back) (sym s.stop ∙ stop) in
    let later : s.rest ≡ rest = rest_is (reverse s.after) (reverse back) s.rest rest (ap reverse same) (sym (aux_append s.after s.rest) ∙ (sym s.cut ∙ cut)) in
    let all : found ≡ s.found = one_found macros back found s.found finds (subst (λ (u : List Char). AreFound macros (marks u) s.found) same s.finds) in
    record {
      kept_is = kept_text rest read ∙ ap (λ (p : SnippetStop). encodes (kept_by p.mark p.back)) (sym stop);
      findings_are = at_end_found rest read ∙ (ap (λ (u : List Finding). u ++ endings back rest) all
          ∙ (ap (λ (u : List Char). s.found ++ endings u rest) (sym same) ∙ (ap (λ (u : List Char). s.found ++ endings s.after u) (sym later) ∙ sym s.all)));
      how_is = how rest read ∙ ap (λ (p : SnippetStop). ending_by p.mark p.back) (sym stop);
    }
  where
    kept_same : text ≡ kept back
    kept_same = kept_only back text keeps

    rest_is : (a b c d : List Char) → a ≡ b → a ++ c ≡ b ++ d → c ≡ d
    rest_is a b c d e f =
        sym (drop-append_seam a c) ∙ (ap (drop (length a)) f ∙ (ap (λ (u : List Char). drop (length u) (b ++ d)) e ∙ drop-append_seam b d))

    kept_text : (rest : List Char) → IsRead split (marks back) text found rest r → string_bytes r.kept ≡ encodes (kept_by (mark_of rest) back)
    kept_text [] i = i.0 ∙ ap encodes kept_same
    kept_text (x ∷ rest) i = i.kept_is ∙ ap encodes (trims_is gabc refl text i.whole i.trims ∙ ap (trim gabc) kept_same)

    at_end_found : (rest : List Char) → IsRead split (marks back) text found rest r → r.findings ≡ found ++ endings back rest
    at_end_found [] i = i.1 ∙ sym (append-nil found)
    at_end_found (x ∷ rest) i = i.findings_are ∙ ap (λ (u : List Finding). found ++ u) (end_found_only back x text i.last kept_same i.is_last)

    how : (rest : List Char) → IsRead split (marks back) text found rest r → r.how ≡ ending_by (mark_of rest) back
    how [] i = i.2.2 ∙ ap snippet_ending.Cut (cut_only back i.2.0 i.2.1)
    how (x ∷ rest) i = i.how_is ∙ (ap (λ (n : ℕ). cond (x.c == 124) (snippet_ending.Next n) (snippet_ending.Close n)) (bytes_marks back) ∙ sym (ends_as (index_of back) x.c))

pub relations_are_computed : (at : Place) (split : Bool) (macros : ℕ) (t : List ℕ) (r : SnippetRead) → IsSnippetRead at split macros t r → IsComputed at split macros t r
relations_are_computed at split macros t r h =
    let e = marked_only h.back h.marked in
    computed at split macros t r (chars_of h.back) h.rest h.kept h.found h.cut
    (subst (λ (u : List Marked). (after before : List Marked) (m : Marked) → u ≡ after ++ m ∷ before → ¬ IsEnd split before m.0) e h.unended)
    (subst (λ (u : List Marked). IsKeptOf u h.kept) e h.keeps)
    (subst (λ (u : List Marked). AreFound macros u h.found) e h.finds)
    (subst (λ (u : List Marked). IsRead split u h.kept h.found h.rest r) e h.is_read)
