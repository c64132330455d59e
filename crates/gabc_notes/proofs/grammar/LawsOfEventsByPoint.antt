-- What follows of the definition by positions.
use Rattle.std.proofs.Common.{◌≡◌, ℕ, ◌≤◌, min, List, [], ◌∷◌, ◌++◌, Bool, true, false, cond, not, ◌&&◌, ◌||◌, ◌==◌, ◌⊎◌, inl, inr, refl, sym, ap, ◌∙◌, length, take, Option, Some, None, append-nil, append_assoc, eqb-true, arith, Decides}
use Rattle.std.proofs.Math.Bool.{or-true}
use Rattle.std.specs.Prelude.{sum_by}
use Rattle.std.specs.Char.{len_utf8}
use Rattle.std.specs.List.{list_any}
use Rattle.std.proofs.lemmas.List.Sums.{sum_by-append}
use Rattle.std.proofs.lemmas.Bool.{not-true, and_parts, or_cases}
use Rattle.gabc_places.specs.declared.place.Char.{Char}
use Rattle.gabc_places.specs.StageLaw.{concat_of}
use Rattle.gabc_patterns.specs.Pattern.{is_in}
use Rattle.gabc_patterns.specs.Derivative.{is_viable}
use Rattle.gabc_patterns.specs.Function.{trim}
use Rattle.gabc_patterns.proofs.FunctionsMeetRelations.{trim_trims}
use Rattle.gabc_notes.specs.Table.{gabc}
use Rattle.gabc_notes.specs.machine.ItemMachine.{whole_at, raw_state}
use Rattle.gabc_notes.specs.Raw.{InComment, IsOpenedAt}
use Rattle.gabc_places.proofs.PushesAreOne.{joined_silence}
use Rattle.gabc_notes.specs.Events.{Point, in_raw, kept, is_comment, is_kept, is_in_raw, is_end, is_over, opener, bytes_of, at_end, events_at, cut_events, note_events_after}
use Rattle.gabc_notes.specs.SnippetRead.{SnippetStop, kept_of, ends_of, stop_after, kept_by, end_by}
use Rattle.gabc_notes.specs.declared.stage.NoteEnd.{NoteEnd}
use Rattle.gabc_notes.specs.declared.stage.NoteEvent.{NoteEvent}
use Rattle.gabc_notes.specs.declared.stage.NoteEvent.TheVariants.{Kept, Found, Ended}
use Rattle.gabc_notes.specs.declared.state.ItemState.{ItemState}
use Rattle.gabc_notes.proofs.grammar.InsideRawIsAnOpenBracket.{step_in}
use Rattle.gabc_notes.proofs.machine.LoopOverBody.{parts, goes, is_emitted, end_plain}
use Rattle.gabc_notes.proofs.machine.FreshStageEmitsEventsByPoint.{over_emits, kept_by as by_states}
use Rattle.gabc_notes.proofs.machine.OneCharacterMore.{point, kept_more, kept_same, opener_more}

-- ---- comments

-- a `%` outside raw
begins_comment : (back : List Char) (x : Char) → (not (in_raw (kept back)) && (x.c == 37)) ≡ true → InComment (x ∷ back)
begins_comment back x h = (let g = and_parts (not (in_raw (kept back))) (x.c == 37) h in record {
  line = [];
  mark = x;
  before = back;
  cut = refl;
  percent = eqb-true x.c 37 g.1;
  outside = not-true (in_raw (kept back)) g.0;
  no_feed = refl;
})

comment_to : (back : List Char) (x : Char) → is_comment (point back x) ≡ true → InComment (x ∷ back)
comment_to [] x e = begins_comment [] x (and_parts (not (x.c == 10)) (false || (not (in_raw (kept [])) && (x.c == 37))) e).1
comment_to (y ∷ back) x e =
    let f = and_parts (not (x.c == 10)) (is_comment (point back y) || (not (in_raw (kept (y ∷ back))) && (x.c == 37))) e in
    elim (or_cases (is_comment (point back y)) (not (in_raw (kept (y ∷ back))) && (x.c == 37)) f.1) [
      | inl h ↦ (let i = comment_to back y h in record {
        line = x ∷ i.line;
        mark = i.mark;
        before = i.before;
        cut = ap (λ (l : List Char). x ∷ l) i.cut;
        percent = i.percent;
        outside = i.outside;
        no_feed = ap (λ (b : Bool). b || list_any (λ (y : Char). y.c == 10) i.line) (not-true (x.c == 10) f.0) ∙ i.no_feed;
      })
      | inr h ↦ begins_comment (y ∷ back) x h
    ]

-- by its parts
comment_by : (back line before : List Char) (x mark : Char) → x ∷ back ≡ line ++ mark ∷ before → mark.c ≡ 37 → in_raw (kept before) ≡ false
    → list_any (λ (y : Char). y.c == 10) line ≡ false → is_comment (point back x) ≡ true
comment_by back [] before x mark e p o n = grind (arith, parts, or-true)
comment_by [] (l ∷ line) before x mark e p o n = absurd (none line (parts x l [] (line ++ mark ∷ before) e).1)
  where
    none : (line : List Char) → [] ≡ line ++ mark ∷ before → ⊥
    none [] f = cc
    none (y ∷ line) f = cc
comment_by (y ∷ back) (l ∷ line) before x mark e p o n =
    let f = parts x l (y ∷ back) (line ++ mark ∷ before) e in
    let later = or_false (l.c == 10) (list_any (λ (y : Char). y.c == 10) line) n in
    let here : x.c == 10 ≡ false = ap (λ (c : Char). c.c == 10) f.0 ∙ later.0 in
    rw (here, comment_by back line before y mark f.1 p o later.1) refl
  where
    or_false : (a b : Bool) → (a || b) ≡ false → (a ≡ false) × (b ≡ false)
    or_false a b e = grind arith

pub comment_decides : (back : List Char) (x : Char) → Decides (is_comment (point back x)) (InComment (x ∷ back))
comment_decides back x = (comment_to back x, λ h. comment_by back h.line h.before x h.mark h.cut h.percent h.outside h.no_feed)

-- ---- what is emitted

pub kept_append : (a b : List NoteEvent) → kept_of (a ++ b) ≡ kept_of a ++ kept_of b
kept_append [] b = refl
kept_append (Kept x ∷ a) b = ap (λ (l : List ℕ). x.c ∷ l) (kept_append a b)
kept_append (Found f ∷ a) b = kept_append a b
kept_append (Ended h n ∷ a) b = kept_append a b

pub ends_append : (a b : List NoteEvent) → ends_of (a ++ b) ≡ ends_of a ++ ends_of b
ends_append [] b = refl
ends_append (Ended h n ∷ a) b = ap (λ (l : List (NoteEnd × ℕ)). (h, n) ∷ l) (ends_append a b)
ends_append (Found f ∷ a) b = ends_append a b
ends_append (Kept x ∷ a) b = ends_append a b

-- what is emitted after the end of the snippet
pub over_joined : (split : Bool) (macros : ℕ) (back xs : List Char) → is_over split back ≡ true → concat_of (note_events_after split macros back xs) ≡ []
over_joined split macros back xs o = ap (λ (l : List (List NoteEvent)). concat_of l) (over_emits split macros xs back o) ∙ joined_silence xs

pub cut_outs : (split : Bool) (back : List Char) → is_over split back ≡ false → cut_events split back ≡ Ended (end_by None back) (bytes_of (kept back)) ∷ []
cut_outs split back o = ap (λ (b : Bool). cond b [] (Ended (end_by None back) (bytes_of (kept back)) ∷ [])) o

stop_next : (split : Bool) (back xs : List Char) (x : Char) → is_end split (point back x) ≡ false → stop_after split back (x ∷ xs) ≡ stop_after split (x ∷ back) xs
stop_next split back xs x n = ap (λ (b : Bool). cond b (record { back = back; mark = Some x.c }) (stop_after split (x ∷ back) xs)) n

stop_here : (split : Bool) (back xs : List Char) (x : Char) → is_end split (point back x) ≡ true → stop_after split back (x ∷ xs) ≡ record { back = back; mark = Some x.c }
stop_here split back xs x n = ap (λ (b : Bool). cond b (record { back = back; mark = Some x.c }) (stop_after split (x ∷ back) xs)) n

pub more_over : (split : Bool) (back : List Char) (x : Char) (b : Bool) → is_over split back ≡ false → is_end split (point back x) ≡ b → is_over split (x ∷ back) ≡ b
more_over split back x b o e = grind arith

pub emitted_kept : (split : Bool) (macros : ℕ) (xs back : List Char) → is_over split back ≡ false
    → kept back ++ kept_of (concat_of (note_events_after split macros back xs)) ≡ kept (stop_after split back xs).back
emitted_kept split macros [] back o = ap (λ (l : List NoteEvent). kept back ++ kept_of (l ++ [])) (cut_outs split back o) ∙ append-nil (kept back)
emitted_kept split macros (x ∷ xs) back o = go (is_emitted split macros back x o) (emitted_kept split macros xs (x ∷ back))
  where
    go : (is_end split (point back x) ≡ false) ⊎ ((is_end split (point back x) ≡ true) × (events_at split macros (point back x) ≡ at_end (point back x)))
        → (is_over split (x ∷ back) ≡ false → kept (x ∷ back) ++ kept_of (concat_of (note_events_after split macros (x ∷ back) xs)) ≡ kept (stop_after split (x ∷ back) xs).back)
        → kept back ++ kept_of (events_at split macros (point back x) ++ concat_of (note_events_after split macros (x ∷ back) xs)) ≡ kept (stop_after split back (x ∷ xs)).back
    go (inl n) F = (let g = goes split macros back x o n in
        ap (λ (l : List ℕ). kept back ++ l) (kept_append (events_at split macros (point back x)) (concat_of (note_events_after split macros (x ∷ back) xs)))
        ∙ (sym (append_assoc (kept back) (kept_of (events_at split macros (point back x))) (kept_of (concat_of (note_events_after split macros (x ∷ back) xs))))
        ∙ (ap (λ (l : List ℕ). l ++ kept_of (concat_of (note_events_after split macros (x ∷ back) xs))) (sym g.kept_is)
        ∙ (F (more_over split back x false o n) ∙ ap (λ (s : SnippetStop). kept s.back) (sym (stop_next split back xs x n))))))
    go (inr n) F =
        ap (λ (l : List ℕ). kept back ++ l) (kept_append (events_at split macros (point back x)) (concat_of (note_events_after split macros (x ∷ back) xs))
        ∙ (ap (λ (l : List NoteEvent). kept_of (events_at split macros (point back x)) ++ kept_of l) (over_joined split macros (x ∷ back) xs (more_over split back x true o n.0))
        ∙ (append-nil (kept_of (events_at split macros (point back x))) ∙ (ap kept_of n.1 ∙ (end_plain (point back x) None).0))))
        ∙ (append-nil (kept back) ∙ ap (λ (s : SnippetStop). kept s.back) (sym (stop_here split back xs x n.0)))

pub emitted_end : (split : Bool) (macros : ℕ) (xs back : List Char) → is_over split back ≡ false
    → ends_of (concat_of (note_events_after split macros back xs)) ≡ (end_by (stop_after split back xs).mark (stop_after split back xs).back, bytes_of (kept_by (stop_after split back xs).mark (stop_after split back xs).back)) ∷ []
emitted_end split macros [] back o = ap (λ (l : List NoteEvent). ends_of (l ++ [])) (cut_outs split back o)
emitted_end split macros (x ∷ xs) back o = go (is_emitted split macros back x o) (emitted_end split macros xs (x ∷ back))
  where
    go : (is_end split (point back x) ≡ false) ⊎ ((is_end split (point back x) ≡ true) × (events_at split macros (point back x) ≡ at_end (point back x)))
        → (is_over split (x ∷ back) ≡ false → ends_of (concat_of (note_events_after split macros (x ∷ back) xs)) ≡ (end_by (stop_after split (x ∷ back) xs).mark (stop_after split (x ∷ back) xs).back, bytes_of (kept_by (stop_after split (x ∷ back) xs).mark (stop_after split (x ∷ back) xs).back)) ∷ [])
        → ends_of (events_at split macros (point back x) ++ concat_of (note_events_after split macros (x ∷ back) xs))
        ≡ (end_by (stop_after split back (x ∷ xs)).mark (stop_after split back (x ∷ xs)).back, bytes_of (kept_by (stop_after split back (x ∷ xs)).mark (stop_after split back (x ∷ xs)).back)) ∷ []
    go (inl n) F = (let g = goes split macros back x o n in
        ends_append (events_at split macros (point back x)) (concat_of (note_events_after split macros (x ∷ back) xs))
        ∙ (ap (λ (l : List (NoteEnd × ℕ)). l ++ ends_of (concat_of (note_events_after split macros (x ∷ back) xs))) g.ends
        ∙ (F (more_over split back x false o n)
        ∙ ap (λ (s : SnippetStop). (end_by s.mark s.back, bytes_of (kept_by s.mark s.back)) ∷ []) (sym (stop_next split back xs x n)))))
    go (inr n) F =
        ends_append (events_at split macros (point back x)) (concat_of (note_events_after split macros (x ∷ back) xs))
        ∙ (ap (λ (l : List NoteEvent). ends_of (events_at split macros (point back x)) ++ ends_of l) (over_joined split macros (x ∷ back) xs (more_over split back x true o n.0))
        ∙ (append-nil (ends_of (events_at split macros (point back x))) ∙ (ap ends_of n.1 ∙ ((end_plain (point back x) None).2
        ∙ ap (λ (s : SnippetStop). (end_by s.mark s.back, bytes_of (kept_by s.mark s.back)) ∷ []) (sym (stop_here split back xs x n.0))))))

-- the bytes that are emitted
pub fewer_bytes : (mark : Option ℕ) (back : List Char) → bytes_of (kept_by mark back) ≤ sum_by len_utf8 (kept back)
fewer_bytes None back = grind arith
fewer_bytes (Some c) back =
    let t = trim_trims gabc refl (kept back) in
    least (sum_by len_utf8 (trim gabc (kept back))) (sum_by len_utf8 (kept back))
    (omega (arith, ap (λ (k : List ℕ). sum_by len_utf8 k) t.cut, sum_by-append len_utf8 (trim gabc (kept back)) t.rest))
  where
    least : (a b : ℕ) → a ≤ b → min a 18446744073709551615 ≤ b
    least a b l = omega arith

-- what is emitted of a prefix
pub events_prefix : (split : Bool) (macros : ℕ) (xs ys zs back : List Char) → take (length xs) (note_events_after split macros back (xs ++ ys)) ≡ take (length xs) (note_events_after split macros back (xs ++ zs))
events_prefix split macros [] ys zs back = refl
events_prefix split macros (x ∷ xs) ys zs back = ap (λ (l : List (List NoteEvent)). events_at split macros (point back x) ∷ l) (events_prefix split macros xs ys zs (x ∷ back))

-- ---- the bracket that is open

-- a `[` that was opened stays so after a character that is not kept
open_unkept : (back : List Char) (x : Char) → is_kept (point back x) ≡ false → kept (x ∷ back) ≡ kept back → IsOpenedAt back → IsOpenedAt (x ∷ back)
open_unkept back x n same h = record {
  line = x ∷ h.line;
  mark = h.mark;
  before = h.before;
  cut = ap (λ (l : List Char). x ∷ l) h.cut;
  bracket = h.bracket;
  place = h.place ∙ sym (opener_more back x ∙ ap (λ (a : Bool). cond (a && not (is_in_raw (point back x))) x.place (opener back)) n);
  outside = h.outside;
  after = h.after;
  kept_is = same ∙ h.kept_is;
  unclosed = h.unclosed;
}

-- and after one that is
open_kept : (back : List Char) (x : Char) → is_kept (point back x) ≡ true → kept (x ∷ back) ≡ kept back ++ x.c ∷ [] → in_raw (kept back) ≡ true → x.c == 93 ≡ false
    → IsOpenedAt back → IsOpenedAt (x ∷ back)
open_kept back x k same r n h = record {
  line = x ∷ h.line;
  mark = h.mark;
  before = h.before;
  cut = ap (λ (l : List Char). x ∷ l) h.cut;
  bracket = h.bracket;
  place = h.place ∙ sym (opener_more back x ∙ (ap (λ (a : Bool). cond (a && not (in_raw (kept back))) x.place (opener back)) k ∙ ap (λ (a : Bool). cond (not a) x.place (opener back)) r));
  outside = h.outside;
  after = h.after ++ x.c ∷ [];
  kept_is = same ∙ (ap (λ (t : List ℕ). t ++ x.c ∷ []) h.kept_is ∙ append_assoc (kept h.before) (91 ∷ h.after) (x.c ∷ []));
  unclosed = none h.after h.unclosed;
}
  where
    none : (t : List ℕ) → is_in 93 t ≡ false → is_in 93 (t ++ x.c ∷ []) ≡ false
    none [] e = rw n refl
    none (c ∷ t) e = go (c == 93) e (none t)
      where
        go : (a : Bool) → (a || is_in 93 t) ≡ false → (is_in 93 t ≡ false → is_in 93 (t ++ x.c ∷ []) ≡ false) → (a || is_in 93 (t ++ x.c ∷ [])) ≡ false
        go a e F = grind arith

-- a `[` that opens
open_here : (back : List Char) (x : Char) → is_kept (point back x) ≡ true → kept (x ∷ back) ≡ kept back ++ x.c ∷ [] → in_raw (kept back) ≡ false → x.c ≡ 91 → IsOpenedAt (x ∷ back)
open_here back x k same r e = record {
  line = [];
  mark = x;
  before = back;
  cut = refl;
  bracket = e;
  place = sym (opener_more back x ∙ (ap (λ (a : Bool). cond (a && not (in_raw (kept back))) x.place (opener back)) k ∙ ap (λ (a : Bool). cond (not a) x.place (opener back)) r));
  outside = r;
  after = [];
  kept_is = same ∙ ap (λ (c : ℕ). kept back ++ c ∷ []) e;
  unclosed = refl;
}

pub opened : (back : List Char) → in_raw (kept back) ≡ true → IsOpenedAt back
opened [] r = absurd (let f : false ≡ true = r in cc)
opened (x ∷ back) r = go (is_comment (point back x)) refl (is_viable gabc (kept back ++ x.c ∷ [])) refl (opened back)
  where
    outside : (s : ItemState) → whole_at s ≡ true → raw_state s ≡ false
    outside s w = grind arith

    go : (c : Bool) → is_comment (point back x) ≡ c → (v : Bool) → is_viable gabc (kept back ++ x.c ∷ []) ≡ v → (in_raw (kept back) ≡ true → IsOpenedAt back) → IsOpenedAt (x ∷ back)
    go true c v w F =
        let same = kept_same back x c in
        open_unkept back x (ap (λ (a : Bool). not a && is_viable gabc (kept back ++ x.c ∷ [])) c) same (F (ap in_raw (sym same) ∙ r))
    go false c false w F =
        let same = kept_more back x c ∙ ap (λ (a : Bool). cond a (kept back ++ x.c ∷ []) (kept back)) w in
        open_unkept back x (ap (λ (a : Bool). not a && is_viable gabc (kept back ++ x.c ∷ [])) c ∙ w) same (F (ap in_raw (sym same) ∙ r))
    go false c true w F =
        let same = kept_more back x c ∙ ap (λ (a : Bool). cond a (kept back ++ x.c ∷ []) (kept back)) w in
        let k : is_kept (point back x) ≡ true = ap (λ (a : Bool). not a && is_viable gabc (kept back ++ x.c ∷ [])) c ∙ w in
        let y = by_states (kept back) x.c w in
        elim (step_in y.from y.to x.c y.steps.next (sym y.raw_after ∙ (ap in_raw (sym same) ∙ r))) [
          | inl z ↦ open_kept back x k same (y.raw ∙ z.0) z.1 (F (y.raw ∙ z.0))
          | inr z ↦ open_here back x k same (y.raw ∙ outside y.from z.1) z.0
        ]

-- ---- after the end

pub nothing_over : (split : Bool) (macros : ℕ) (p : Point) → is_over split p.back ≡ true → events_at split macros p ≡ []
nothing_over split macros p o = grind arith
