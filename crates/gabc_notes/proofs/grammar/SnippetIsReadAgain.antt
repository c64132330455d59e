-- A snippet in front of its mark is read again as that snippet.
use Rattle.std.proofs.Common.{arith, ◌≡◌, ℕ, suc, List, [], ◌∷◌, ◌++◌, Bool, true, false, cond, not, ◌&&◌, ◌||◌, ◌==◌, refl, sym, ap, ◌∙◌, subst, length, take, Option, Some, None, append-nil, append_assoc, ne_eqb, add-one}
use Rattle.std.proofs.lemmas.Bool.{and_parts}
use mathlib.Core.List.{reverse_aux}
use Rattle.std.specs.List.{All}
use Rattle.std.proofs.Math.Seq.{take-length}
use Rattle.std.proofs.lemmas.List.Elements.{All-nil, All-cons, All-append}
use Rattle.gabc_places.specs.declared.code.Code.TheVariants.{W8, W10}
use Rattle.gabc_places.specs.declared.place.Char.{Char}
use Rattle.gabc_places.specs.declared.place.Place.{Place}
use Rattle.gabc_places.specs.Place.{next_place, placed_characters_from}
use Rattle.gabc_places.specs.StageLaw.{concat_of}
use Rattle.gabc_places.proofs.PlacesOfAText.{length_placed}
use Rattle.gabc_patterns.specs.LongestItems.{IsSnippet}
use Rattle.gabc_patterns.specs.Derivative.{is_snippet, is_viable}
use Rattle.gabc_patterns.specs.Function.{trim}
use Rattle.gabc_patterns.proofs.KeptTextIsKeptAgain.{viable_prefix, snippet_viable}
use Rattle.gabc_patterns.proofs.FunctionsMeetRelations.{viable_decides, snippet_decides, trim_snippet, trim_trims}
use Rattle.gabc_notes.specs.Table.{gabc}
use Rattle.gabc_notes.specs.Ends.{IsMarkOf}
use Rattle.gabc_notes.specs.machine.ItemMachine.{raw_state}
use Rattle.gabc_notes.specs.Events.{in_raw, finding_event, with_comments, ends_in_comment, kept, is_comment, is_end, is_over, is_unpaired, is_missing, macro_of, item_at, opener, warnings, at_end, end_by_mark, bytes_of, events_at, note_events_after, note_events, Point}
use Rattle.gabc_notes.specs.SnippetRead.{SnippetStop, kept_chars_of, findings_of, ends_of, stop_after, kept_by}
use Rattle.gabc_notes.specs.ReadAgain.{IsWarning, IsReadAgain}
use Rattle.gabc_notes.specs.declared.stage.NoteEnd.{NoteEnd}
use Rattle.gabc_notes.specs.declared.stage.NoteEvent.{NoteEvent}
use Rattle.gabc_notes.specs.declared.stage.NoteEvent.TheVariants.{Kept}
use Rattle.gabc_notes.specs.declared.state.ItemState.{ItemState}
use Rattle.gabc_notes.proofs.KeptChars.{kept_chars-append}
use Rattle.gabc_notes.proofs.grammar.InsideRawIsAnOpenBracket.{on}
use Rattle.gabc_notes.proofs.grammar.LawsOfEventsByPoint.{ends_append, over_joined, more_over}
use Rattle.gabc_notes.proofs.machine.LoopOverBody.{findings_append, goes, end_plain}
use Rattle.gabc_notes.proofs.machine.FreshStageEmitsEventsByPoint.{kept_by as by_states}
use Rattle.gabc_notes.proofs.machine.OneCharacterMore.{point, kept_more, pick_end, pick_kept}

-- ---- outside raw no item has a `)`, a `|` or a `%`

abbrev is_none : Option ItemState → Bool
is_none None = true
is_none (Some s) = false

-- in this state the character does not go on, unless the state lies inside raw
abbrev is_barred : ItemState → ℕ → Bool
is_barred s c = raw_state s || is_none (on s c)

barred : (s : ItemState) → (is_barred s 41 && (is_barred s 124 && is_barred s 37)) ≡ true
barred s = grind arith

barred_by : (s z : ItemState) (d : ℕ) → is_barred s d ≡ true → raw_state s ≡ false → on s d ≡ Some z → ⊥
barred_by s z d b r e = let f : is_barred s d ≡ false = rw (r, e) refl in let g : true ≡ false = sym b ∙ f in cc

-- so none of them goes on a viable text
pub record IsPlain (c : ℕ) : Type 0 where
  pub no_bracket : c == 41 ≡ false
  pub no_bar : c == 124 ≡ false
  pub no_percent : c == 37 ≡ false

pub plain_outside : (k : List ℕ) (c : ℕ) → is_viable gabc (k ++ c ∷ []) ≡ true → in_raw k ≡ false → IsPlain c
plain_outside k c v r =
    let y = by_states k c v in
    let b = and_parts (is_barred y.from 41) (is_barred y.from 124 && is_barred y.from 37) (barred y.from) in
    let d = and_parts (is_barred y.from 124) (is_barred y.from 37) b.1 in
    let never : (e : ℕ) → is_barred y.from e ≡ true → c == e ≡ false =
    λ e h. ne_eqb c e (λ f. barred_by y.from y.to e h (sym y.raw ∙ r) (subst (λ (n : ℕ). on y.from n ≡ Some y.to) f y.steps.next)) in
    record { no_bracket = never 41 b.0; no_bar = never 124 d.0; no_percent = never 37 d.1 }

-- after characters in no comment a character that goes on the kept text begins none, and ends no snippet
pub record GoesOn (split : Bool) (back : List Char) (x : Char) : Type 0 where
  pub comment : is_comment (point back x) ≡ false
  pub no_mark : (not (in_raw (kept back)) && ((x.c == 41) || (split && (x.c == 124)))) ≡ false
  pub no_end : is_end split (point back x) ≡ false
  pub kept_is : kept (x ∷ back) ≡ kept back ++ x.c ∷ []

goes_on : (split : Bool) (back : List Char) (x : Char) → ends_in_comment (with_comments back) ≡ false → is_viable gabc (kept back ++ x.c ∷ []) ≡ true → GoesOn split back x
goes_on split back x n v = grind (arith, kept_more, plain_outside)

-- ---- what is emitted of such a character, and of the mark

abbrev pub AllWarnings : List NoteEvent → Type 0
AllWarnings events = All IsWarning (findings_of events)

one_warns : (place : Place) → AllWarnings (finding_event place W10 ∷ [])
one_warns place = All-cons IsWarning (record { place = place; code = W10 }) [] refl (All-nil IsWarning)

-- with a kept character come warnings alone
kept_warns : (macros : ℕ) (p : Point) → (kept_chars_of (Kept p.here ∷ warnings macros p) ≡ p.here ∷ []) × AllWarnings (Kept p.here ∷ warnings macros p)
kept_warns macros p = go (is_unpaired p) (is_missing macros (macro_of (item_at p)))
  where
    go : (a b : Bool)
        → (kept_chars_of (Kept p.here ∷ cond a (finding_event p.here.place W10 ∷ []) [] ++ cond b (finding_event (opener p.back) W8 ∷ []) []) ≡ p.here ∷ [])
        × AllWarnings (Kept p.here ∷ cond a (finding_event p.here.place W10 ∷ []) [] ++ cond b (finding_event (opener p.back) W8 ∷ []) [])
    go a b = grind arith

-- and with the end of a whole snippet
end_warns : (p : Point) → is_snippet gabc (kept p.back) ≡ true → (kept_chars_of (at_end p) ≡ []) × AllWarnings (at_end p)
end_warns p s = grind (arith, one_warns)

-- ---- the characters of a snippet, and its mark

pub record IsMark (split : Bool) (c : ℕ) : Type 0 where
  pub ends : ((c == 41) || (split && (c == 124))) ≡ true
  pub no_percent : c == 37 ≡ false

pub mark_is : (split : Bool) (how : NoteEnd) (c : ℕ) → IsMarkOf split how c → IsMark split c
mark_is split how c e = grind arith

-- after these characters: the text is read to its mark
pub record ReadsOn (split : Bool) (macros : ℕ) (back xs left : List Char) (t : List ℕ) (mark : ℕ) : Type 0 where
  pub stop : stop_after split back left ≡ record { back = reverse_aux xs back; mark = Some mark }
  pub kept_is : kept (reverse_aux xs back) ≡ kept back ++ t
  pub chars : kept_chars_of (concat_of (note_events_after split macros back left)) ≡ xs
  pub unended : ends_of (concat_of (take (length t) (note_events_after split macros back left))) ≡ []
  pub ended : ends_of (concat_of (take (suc (length t)) (note_events_after split macros back left))) ≡ (end_by_mark mark, bytes_of (trim gabc (kept back ++ t))) ∷ []
  pub all_warn : AllWarnings (concat_of (note_events_after split macros back left))

-- at the mark
reads_mark : (split : Bool) (macros : ℕ) (at : Place) (rest : List ℕ) (mark : ℕ) (back : List Char) → IsMark split mark
    → ends_in_comment (with_comments back) ≡ false → is_over split back ≡ false → is_snippet gabc (kept back) ≡ true
    → ReadsOn split macros back [] (placed_characters_from at (mark ∷ rest)) [] mark
reads_mark split macros at rest mark back m n o s =
    let x : Char = record { c = mark; place = at } in
    let left : List Char = placed_characters_from (next_place at mark) rest in
    let raw : in_raw (kept back) ≡ false = unraw (is_snippet gabc (kept back ++ 93 ∷ [])) (is_snippet gabc (kept back)) s in
    let comment : is_comment (point back x) ≡ false = none (mark == 10) (ends_in_comment (with_comments back)) (in_raw (kept back)) (mark == 37) n m.no_percent in
    let mark_here : (not (in_raw (kept back)) && ((mark == 41) || (split && (mark == 124)))) ≡ true = yes (in_raw (kept back)) _ raw m.ends in
    let ends : is_end split (point back x) ≡ true = yes (is_comment (point back x)) _ comment mark_here in
    let e : events_at split macros (point back x) ≡ at_end (point back x) = pick_end _ _ _ _ _ _ _ o comment mark_here in
    let w = end_warns (point back x) s in
    let all : concat_of (note_events_after split macros back (x ∷ left)) ≡ at_end (point back x) =
    ap (λ (l : List NoteEvent). l ++ concat_of (note_events_after split macros (x ∷ back) left)) e
    ∙ (ap (λ (l : List NoteEvent). at_end (point back x) ++ l) (over_joined split macros (x ∷ back) left (more_over split back x true o ends)) ∙ append-nil (at_end (point back x))) in
    record {
      stop = ap (λ (b : Bool). cond b (record { back = back; mark = Some mark }) (stop_after split (x ∷ back) left)) ends;
      kept_is = sym (append-nil (kept back));
      chars = ap kept_chars_of all ∙ w.0;
      unended = refl;
      ended = ap ends_of (append-nil (events_at split macros (point back x)) ∙ e) ∙ ((end_plain (point back x) None).2
          ∙ ap (λ (k : List ℕ). (end_by_mark mark, bytes_of (trim gabc k)) ∷ []) (sym (append-nil (kept back))));
      all_warn = subst AllWarnings (sym all) w.1;
    }
  where
    unraw : (a b : Bool) → b ≡ true → (a && not b) ≡ false
    unraw a b e = grind arith

    none : (a b r d : Bool) → b ≡ false → d ≡ false → (not a && (b || (not r && d))) ≡ false
    none a b r d e f = grind arith

    yes : (a b : Bool) → a ≡ false → b ≡ true → (not a && b) ≡ true
    yes a b e f = rw (e, f) refl

pub reads_on : (split : Bool) (macros : ℕ) (at : Place) (t rest : List ℕ) (mark : ℕ) (back : List Char) → IsMark split mark
    → ends_in_comment (with_comments back) ≡ false → is_over split back ≡ false → IsSnippet gabc (kept back ++ t)
    → ReadsOn split macros back (placed_characters_from at t) (placed_characters_from at (t ++ mark ∷ rest)) t mark
reads_on split macros at [] rest mark back m n o s =
    reads_mark split macros at rest mark back m n o ((snippet_decides gabc refl (kept back)).1 (subst (IsSnippet gabc) (append-nil (kept back)) s))
reads_on split macros at (c ∷ t) rest mark back m n o s =
    let x : Char = record { c = c; place = at } in
    let left : List Char = placed_characters_from (next_place at c) (t ++ mark ∷ rest) in
    let more : IsSnippet gabc ((kept back ++ c ∷ []) ++ t) = subst (IsSnippet gabc) (sym (append_assoc (kept back) (c ∷ []) t)) s in
    let v : is_viable gabc (kept back ++ c ∷ []) ≡ true =
    (viable_decides gabc refl (kept back ++ c ∷ [])).1 (viable_prefix gabc (kept back ++ c ∷ []) t (snippet_viable gabc ((kept back ++ c ∷ []) ++ t) more)) in
    let g = goes_on split back x n v in
    let e : events_at split macros (point back x) ≡ Kept x ∷ warnings macros (point back x) = pick_kept _ _ _ _ _ _ _ o g.comment g.no_mark v in
    let w = kept_warns macros (point back x) in
    let lists : List (List NoteEvent) = note_events_after split macros (x ∷ back) left in
    let later : List NoteEvent = concat_of lists in
    let none : ends_of (events_at split macros (point back x)) ≡ [] = (goes split macros back x o g.no_end).ends in
    let same : kept (x ∷ back) ++ t ≡ kept back ++ c ∷ t = ap (λ (k : List ℕ). k ++ t) g.kept_is ∙ append_assoc (kept back) (c ∷ []) t in
    let y = reads_on split macros (next_place at c) t rest mark (x ∷ back) m g.comment (more_over split back x false o g.no_end)
    (subst (λ (k : List ℕ). IsSnippet gabc (k ++ t)) (sym g.kept_is) more) in
    record {
      stop = ap (λ (b : Bool). cond b (record { back = back; mark = Some c }) (stop_after split (x ∷ back) left)) g.no_end ∙ y.stop;
      kept_is = y.kept_is ∙ same;
      chars = kept_chars-append (events_at split macros (point back x)) later ∙ (ap (λ (l : List NoteEvent). kept_chars_of l ++ kept_chars_of later) e
          ∙ (ap (λ (l : List Char). l ++ kept_chars_of later) w.0 ∙ ap (λ (l : List Char). x ∷ l) y.chars));
      unended = ends_append (events_at split macros (point back x)) (concat_of (take (length t) lists)) ∙ (ap (λ (l : List (NoteEnd × ℕ)). l ++ ends_of (concat_of (take (length t) lists))) none ∙ y.unended);
      ended = ends_append (events_at split macros (point back x)) (concat_of (take (suc (length t)) lists))
          ∙ (ap (λ (l : List (NoteEnd × ℕ)). l ++ ends_of (concat_of (take (suc (length t)) lists))) none
          ∙ (y.ended ∙ ap (λ (k : List ℕ). (end_by_mark mark, bytes_of (trim gabc k)) ∷ []) same));
      all_warn = subst (All IsWarning) (sym (findings_append (events_at split macros (point back x)) later))
          (All-append IsWarning (findings_of (events_at split macros (point back x))) (findings_of later) (subst AllWarnings (sym e) w.1) y.all_warn);
    }

-- a snippet in front of its mark
pub read_again : (split : Bool) (macros : ℕ) (at : Place) (how : NoteEnd) (t rest : List ℕ) (mark : ℕ) → IsSnippet gabc t → IsMarkOf split how mark
    → IsReadAgain split macros at t mark rest
unfolding note_events
read_again split macros at how t rest mark s m =
    let xs : List Char = placed_characters_from at t in
    let y = reads_on split macros at t rest mark [] (mark_is split how mark m) refl refl s in
    let same : kept_by (Some mark) (reverse_aux xs []) ≡ t = ap (trim gabc) y.kept_is ∙ trim_snippet gabc refl t s in
    let long : length (kept_by (Some mark) (reverse_aux xs [])) ≡ length xs = ap (λ (u : List ℕ). length u) same ∙ sym (length_placed at t) in
    record {
      stop = y.stop;
      kept = same;
      chars = ap (λ (z : SnippetStop). take (length (kept_by z.mark z.back)) (kept_chars_of (concat_of (note_events split macros (placed_characters_from at (t ++ mark ∷ rest)))))) y.stop
          ∙ (ap (λ (n : ℕ). take n (kept_chars_of (concat_of (note_events split macros (placed_characters_from at (t ++ mark ∷ rest)))))) long
          ∙ (ap (λ (l : List Char). take (length xs) l) y.chars ∙ take-length xs));
      unended = y.unended;
      ended = ap (λ (n : ℕ). ends_of (concat_of (take n (note_events split macros (placed_characters_from at (t ++ mark ∷ rest)))))) (add-one (length t))
          ∙ (y.ended ∙ ap (λ (k : List ℕ). (end_by_mark mark, bytes_of k) ∷ []) (trim_snippet gabc refl t s));
      warnings = y.all_warn;
    }

-- the kept text of a snippet that ended is one
pub kept_is_snippet : (mark : ℕ) (back : List Char) → IsSnippet gabc (kept_by (Some mark) back)
kept_is_snippet mark back = (trim_trims gabc refl (kept back)).longest.has
