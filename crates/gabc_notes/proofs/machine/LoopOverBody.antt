-- The loop over a body's characters, and its end.
use Rattle.std.proofs.Common.{◌≡◌, ℕ, ◌+◌, ◌<◌, ◌≤◌, ◌^◌, List, [], ◌∷◌, ◌++◌, Bool, true, false, cond, not, ◌&&◌, ◌||◌, ◌==◌, ◌⊎◌, inl, inr, refl, sym, ap, ◌∙◌, append_assoc, append-nil, length, length-append, take, Option, Some, None, arith}
use Rattle.std.specs.Prelude.{sum_by}
use Rattle.std.specs.Char.{len_utf8}
use Rattle.std.specs.String.Boundary.{IsSplitPoint}
use Rattle.std.proofs.lemmas.List.Sums.{sum_by-append, sum_by-cons}
use Rattle.std.proofs.lemmas.List.{take_at}
use Rattle.std.proofs.lemmas.Str.{length-encode, encodes-append, IsCharBoundary-at_seam}
use Rattle.gabc_places.specs.declared.code.Code.TheVariants.{E1, W8, W10}
use Rattle.gabc_places.specs.declared.code.Finding.{Finding}
use Rattle.gabc_places.specs.declared.place.Char.{Char}
use Rattle.gabc_places.specs.declared.place.Place.{Place}
use Rattle.gabc_places.specs.StageLaw.{concat_of}
use Rattle.gabc_places.specs.Place.{next_place}
use Rattle.gabc_patterns.specs.Derivative.{is_viable}
use Rattle.gabc_patterns.specs.Function.{trim}
use Rattle.gabc_patterns.proofs.FunctionsMeetRelations.{trim_trims}
use Rattle.gabc_notes.specs.Table.{gabc}
use Rattle.gabc_notes.specs.witness.ItemMachine.{events_left}
use Rattle.gabc_places.proofs.PushesAreOne.{joined_silence}
use Rattle.gabc_notes.specs.Events.{in_raw, finding_event, end_by_mark, is_missing, Point, kept, is_comment, is_end, is_over, is_unpaired, opener, item_at, macro_of, bytes_of, warnings, at_end, events_at, cut_events, note_events, note_events_after}
use Rattle.gabc_notes.specs.SnippetRead.{SnippetStop, kept_of, ends_of, findings_of, stop_after, index_of, kept_by, ending_by, ending_at}
use Rattle.gabc_notes.specs.machine.BuiltSnippet.{BuiltSnippet, with_events, PushIsAdded, EndIsAdded}
use Rattle.gabc_notes.specs.declared.stage.NoteEnd.{NoteEnd}
use Rattle.gabc_notes.specs.declared.stage.NoteEnd.TheVariants.{Cut}
use Rattle.gabc_notes.specs.declared.stage.NoteEvent.{NoteEvent}
use Rattle.gabc_notes.specs.declared.stage.NoteEvent.TheVariants.{Kept, Found, Ended}
use Rattle.gabc_notes.specs.declared.stage.NoteStage.{NoteStage}
use Rattle.gabc_notes.proofs.machine.EventsBuildSnippet.{end_of, built_is}
use Rattle.gabc_notes.proofs.machine.FreshStageEmitsEventsByPoint.{over_emits}
use Rattle.gabc_notes.proofs.machine.OneCharacterMore.{point, kept_more, kept_same, pick_none, pick_end, pick_kept, pick_left}
use lib.Utf8.{encode, encodes, scalar, scalars}

-- ---- bytes

bytes_encodes : (t : List ℕ) → sum_by len_utf8 t ≡ length (encodes t)
bytes_encodes [] = refl
bytes_encodes (c ∷ t) = sum_by-cons len_utf8 c t ∙ omega (arith, bytes_encodes t, length-encode c, length-append (encode c) (encodes t))

scalars_append : (a b : List ℕ) → scalars (a ++ b) ≡ true → scalars b ≡ true
scalars_append [] b e = e
scalars_append (c ∷ a) b e = grind (arith, scalars_append a b)

scalars_more : (a : List ℕ) (c : ℕ) → scalars a ≡ true → scalar c ≡ true → scalars (a ++ c ∷ []) ≡ true
scalars_more [] c e f = rw f refl
scalars_more (d ∷ a) c e f = go (scalar d) e (λ g. scalars_more a c g f)
  where
    go : (s : Bool) → (s && scalars a) ≡ true → (scalars a ≡ true → scalars (a ++ c ∷ []) ≡ true) → (s && scalars (a ++ c ∷ [])) ≡ true
    go s e F = grind arith

-- a text may be cut after the bytes of a prefix
pub record Cuts (bs a : List ℕ) (n : ℕ) : Type 0 where
  pub splits : IsSplitPoint bs n
  pub prefix : take n bs ≡ encodes a

cuts : (bs a b : List ℕ) (n : ℕ) → bs ≡ encodes (a ++ b) → scalars (a ++ b) ≡ true → length bs < 2 ^ 64 → n ≡ bytes_of a → Cuts bs a n
cuts bs a b n e s l f = grind (arith, encodes-append, bytes_encodes, length-append, IsCharBoundary-at_seam, scalars_append, take_at)

-- ---- lists of events

pub findings_append : (a b : List NoteEvent) → findings_of (a ++ b) ≡ findings_of a ++ findings_of b
findings_append [] b = refl
findings_append (Found f ∷ a) b = ap (λ (l : List Finding). f ∷ l) (findings_append a b)
findings_append (Kept x ∷ a) b = findings_append a b
findings_append (Ended h n ∷ a) b = findings_append a b

-- the warnings keep no character, and end nothing
warnings_plain : (macros : ℕ) (p : Point) (e : Option (NoteEnd × ℕ)) → (kept_of (warnings macros p) ≡ []) × (end_of e (warnings macros p) ≡ e) × (ends_of (warnings macros p) ≡ [])
warnings_plain macros p e = go (is_unpaired p) (is_missing macros (macro_of (item_at p)))
  where
    go : (a b : Bool)
        → (kept_of (cond a (finding_event p.here.place W10 ∷ []) [] ++ cond b (finding_event (opener p.back) W8 ∷ []) []) ≡ [])
        × (end_of e (cond a (finding_event p.here.place W10 ∷ []) [] ++ cond b (finding_event (opener p.back) W8 ∷ []) []) ≡ e)
        × (ends_of (cond a (finding_event p.here.place W10 ∷ []) [] ++ cond b (finding_event (opener p.back) W8 ∷ []) []) ≡ [])
    go a b = grind arith

-- the end of a snippet keeps no character
pub end_plain : (p : Point) (e : Option (NoteEnd × ℕ)) → (kept_of (at_end p) ≡ []) × (end_of e (at_end p) ≡ Some (end_by_mark p.here.c, bytes_of (trim gabc (kept p.back))))
    × (ends_of (at_end p) ≡ (end_by_mark p.here.c, bytes_of (trim gabc (kept p.back))) ∷ [])
end_plain p e = grind arith

-- what is said of a character that does not end the snippet: it goes on the kept text as is emitted, and ends nothing
pub record Goes (split : Bool) (macros : ℕ) (back : List Char) (x : Char) : Type 0 where
  pub kept_is : kept (x ∷ back) ≡ kept back ++ kept_of (events_at split macros (point back x))
  pub one : (kept_of (events_at split macros (point back x)) ≡ []) ⊎ (kept_of (events_at split macros (point back x)) ≡ x.c ∷ [])
  pub no_end : (e : Option (NoteEnd × ℕ)) → end_of e (events_at split macros (point back x)) ≡ e
  pub ends : ends_of (events_at split macros (point back x)) ≡ []

pub goes : (split : Bool) (macros : ℕ) (back : List Char) (x : Char) → is_over split back ≡ false → is_end split (point back x) ≡ false → Goes split macros back x
goes split macros back x o n = go (is_comment (point back x)) refl (is_viable gabc (kept back ++ x.c ∷ [])) refl
  where
    open_mark : is_comment (point back x) ≡ false → (not (in_raw (kept back)) && ((x.c == 41) || (split && (x.c == 124)))) ≡ false
    open_mark c = sym (ap (λ (a : Bool). not a && (not (in_raw (kept back)) && ((x.c == 41) || (split && (x.c == 124))))) c) ∙ n

    go : (c : Bool) → is_comment (point back x) ≡ c → (v : Bool) → is_viable gabc (kept back ++ x.c ∷ []) ≡ v → Goes split macros back x
    go true c v w =
        let e : events_at split macros (point back x) ≡ [] = pick_none _ _ _ _ _ _ _ o c in
        record {
          kept_is = kept_same back x c ∙ (sym (append-nil (kept back)) ∙ ap (λ (l : List NoteEvent). kept back ++ kept_of l) (sym e));
          one = inl (ap kept_of e);
          no_end = λ d. ap (end_of d) e;
          ends = ap ends_of e;
        }
    go false c true w =
        let e : events_at split macros (point back x) ≡ Kept x ∷ warnings macros (point back x) = pick_kept _ _ _ _ _ _ _ o c (open_mark c) w in
        let k : kept_of (events_at split macros (point back x)) ≡ x.c ∷ [] = ap kept_of e ∙ ap (λ (l : List ℕ). x.c ∷ l) (warnings_plain macros (point back x) None).0 in
        record {
          kept_is = kept_more back x c ∙ (ap (λ (a : Bool). cond a (kept back ++ x.c ∷ []) (kept back)) w ∙ ap (λ (l : List ℕ). kept back ++ l) (sym k));
          one = inr k;
          no_end = λ d. ap (end_of d) e ∙ (warnings_plain macros (point back x) d).1;
          ends = ap ends_of e ∙ (warnings_plain macros (point back x) None).2;
        }
    go false c false w =
        let e : events_at split macros (point back x) ≡ finding_event x.place E1 ∷ [] = pick_left _ _ _ _ _ _ _ o c (open_mark c) w in
        record {
          kept_is = kept_more back x c ∙ (ap (λ (a : Bool). cond a (kept back ++ x.c ∷ []) (kept back)) w ∙ (sym (append-nil (kept back)) ∙ ap (λ (l : List NoteEvent). kept back ++ kept_of l) (sym e)));
          one = inl (ap kept_of e);
          no_end = λ d. ap (end_of d) e;
          ends = ap ends_of e;
        }

-- the parts of equal values
pub parts : {X : Type 0} (x y : X) (xs ys : List X) → x ∷ xs ≡ y ∷ ys → (x ≡ y) × (xs ≡ ys)
parts x y xs ys e = ((cc), (cc))

some_parts : {A B : Type 0} (a c : A) (b d : B) → ◌≡◌ {A = Option (A × B)} (Some (a, b)) (Some (c, d)) → (a ≡ c) × (b ≡ d)
some_parts {A} {B} a c b d e = (let f : ◌≡◌ {A = A × B} (a, b) (c, d) = cc in (ap (λ (p : A × B). p.0) f, ap (λ (p : A × B). p.1) f))

some_none : {A : Type 0} (a : A) (o : Option A) → o ≡ Some a → o ≡ None → ⊥
some_none a o e f = cc

-- ---- the loop

-- After the characters `back` of a snippet that has not ended, where these are left.
pub record Reaches (split : Bool) (macros : ℕ) (all back left : List Char) (stage : NoteStage) (h : BuiltSnippet) (index : ℕ) : Type 0 where
  pub over : is_over split back ≡ false
  pub rest : (xs : List Char) → events_left stage xs ≡ note_events_after split macros back xs
  pub kept_is : h.kept ≡ encodes (kept back)
  pub findings : h.findings ++ findings_of (concat_of (note_events_after split macros back left)) ≡ findings_of (concat_of (note_events split macros all))
  pub open_end : h.end ≡ None
  pub stop : stop_after split [] all ≡ stop_after split back left
  pub index_is : index ≡ index_of back
  pub chars : scalars (kept back) ≡ true
  pub fits : sum_by len_utf8 (kept back) ≤ index

-- before the first character
pub reaches_first : (split : Bool) (macros : ℕ) (all : List Char) (stage : NoteStage) (h : BuiltSnippet) → ((xs : List Char) → events_left stage xs ≡ note_events split macros xs)
    → h ≡ record { kept = []; findings = []; end = None } → Reaches split macros all [] all stage h 0
unfolding note_events
reaches_first split macros all stage h r e = grind arith

-- what a push gave is what is said of its character
pub record BuiltHere (split : Bool) (macros : ℕ) (back : List Char) (x : Char) (next : NoteStage) (h after : BuiltSnippet) : Type 0 where
  pub rest : (xs : List Char) → events_left next xs ≡ note_events_after split macros (x ∷ back) xs
  pub kept_is : after.kept ≡ h.kept ++ encodes (kept_of (events_at split macros (point back x)))
  pub findings : after.findings ≡ h.findings ++ findings_of (events_at split macros (point back x))
  pub end_is : after.end ≡ end_of h.end (events_at split macros (point back x))

built_here : (split : Bool) (macros : ℕ) (back : List Char) (x : Char) (stage next : NoteStage) (h after : BuiltSnippet)
    → ((xs : List Char) → events_left stage xs ≡ note_events_after split macros back xs) → PushIsAdded stage next x h after → BuiltHere split macros back x next h after
built_here split macros back x stage next h after r f =
    let law : (xs : List Char) → f.events ∷ events_left next xs ≡ events_at split macros (point back x) ∷ note_events_after split macros (x ∷ back) xs = λ xs. sym (f.law xs) ∙ r (x ∷ xs) in
    let emitted : f.events ≡ events_at split macros (point back x) = (parts _ _ _ _ (law [])).0 in
    let all : after ≡ record { kept = h.kept ++ encodes (kept_of (events_at split macros (point back x))); findings = h.findings ++ findings_of (events_at split macros (point back x)); end = end_of h.end (events_at split macros (point back x)) } =
    f.built ∙ (ap (with_events h) emitted ∙ built_is h (events_at split macros (point back x))) in
    record {
      rest = λ xs. (parts _ _ _ _ (law xs)).1;
      kept_is = ap (λ (y : BuiltSnippet). y.kept) all;
      findings = ap (λ (y : BuiltSnippet). y.findings) all;
      end_is = ap (λ (y : BuiltSnippet). y.end) all;
    }

-- an end that is emitted
pub is_emitted : (split : Bool) (macros : ℕ) (back : List Char) (x : Char) → is_over split back ≡ false
    → (is_end split (point back x) ≡ false) ⊎ ((is_end split (point back x) ≡ true) × (events_at split macros (point back x) ≡ at_end (point back x)))
is_emitted split macros back x o = go (is_comment (point back x)) refl (not (in_raw (kept back)) && ((x.c == 41) || (split && (x.c == 124)))) refl
  where
    go : (c : Bool) → is_comment (point back x) ≡ c → (b : Bool) → (not (in_raw (kept back)) && ((x.c == 41) || (split && (x.c == 124)))) ≡ b
        → (is_end split (point back x) ≡ false) ⊎ ((is_end split (point back x) ≡ true) × (events_at split macros (point back x) ≡ at_end (point back x)))
    go true c b e = inl (ap (λ (a : Bool). not a && (not (in_raw (kept back)) && ((x.c == 41) || (split && (x.c == 124))))) c)
    go false c false e = inl (ap (λ (a : Bool). not a && (not (in_raw (kept back)) && ((x.c == 41) || (split && (x.c == 124))))) c ∙ e)
    go false c true e = inr (ap (λ (a : Bool). not a && (not (in_raw (kept back)) && ((x.c == 41) || (split && (x.c == 124))))) c ∙ e, pick_end _ _ _ _ _ _ _ o c e)

-- a character that does not end the snippet
pub reaches_next : (split : Bool) (macros : ℕ) (all back xs : List Char) (x : Char) (stage next : NoteStage) (h after : BuiltSnippet) (index more : ℕ)
    → Reaches split macros all back (x ∷ xs) stage h index → PushIsAdded stage next x h after → after.end ≡ None → scalar x.c ≡ true → more ≡ index + len_utf8 x.c
    → Reaches split macros all (x ∷ back) xs next after more
reaches_next split macros all back xs x stage next h after index more r f e s m = elim (is_emitted split macros back x r.over) [
  | inl n ↦ (let g = goes split macros back x r.over n in record {
    over = ap (λ (a : Bool). a || is_over split back) n ∙ r.over;
    rest = here.rest;
    kept_is = here.kept_is ∙ (ap (λ (t : List ℕ). t ++ encodes (kept_of (events_at split macros (point back x)))) r.kept_is
        ∙ (sym (encodes-append (kept back) (kept_of (events_at split macros (point back x)))) ∙ ap encodes (sym g.kept_is)));
    findings = ap (λ (t : List Finding). t ++ findings_of (concat_of (note_events_after split macros (x ∷ back) xs))) here.findings
        ∙ (append_assoc h.findings (findings_of (events_at split macros (point back x))) (findings_of (concat_of (note_events_after split macros (x ∷ back) xs)))
        ∙ (ap (λ (t : List Finding). h.findings ++ t) (sym (findings_append (events_at split macros (point back x)) (concat_of (note_events_after split macros (x ∷ back) xs)))) ∙ r.findings));
    open_end = e;
    stop = r.stop ∙ ap (λ (a : Bool). cond a (record { back = back; mark = Some x.c }) (stop_after split (x ∷ back) xs)) n;
    index_is = m ∙ (ap (λ (i : ℕ). i + len_utf8 x.c) r.index_is ∙ sym (sum_by-cons (λ (y : Char). len_utf8 y.c) x back ∙ swap (len_utf8 x.c) (index_of back)));
    chars = ap scalars g.kept_is ∙ elim g.one [
      | inl z ↦ ap (λ (t : List ℕ). scalars (kept back ++ t)) z ∙ (ap scalars (append-nil (kept back)) ∙ r.chars)
      | inr z ↦ ap (λ (t : List ℕ). scalars (kept back ++ t)) z ∙ scalars_more (kept back) x.c r.chars s
    ];
    fits = elim g.one [
      | inl z ↦ omega (arith, ap (λ (t : List ℕ). sum_by len_utf8 t) (g.kept_is ∙ (ap (λ (t : List ℕ). kept back ++ t) z ∙ append-nil (kept back))), r.fits)
      | inr z ↦ omega (arith, ap (λ (t : List ℕ). sum_by len_utf8 t) (g.kept_is ∙ ap (λ (t : List ℕ). kept back ++ t) z), sum_by-append len_utf8 (kept back) (x.c ∷ []), sum_by-cons len_utf8 x.c [], r.fits)
    ];
  })
  | inr n ↦ absurd (some_none _ after.end (here.end_is ∙ (ap (end_of h.end) n.1 ∙ (end_plain (point back x) h.end).1)) e)
]
  where
    here : BuiltHere split macros back x next h after
    here = built_here split macros back x stage next h after r.rest f

    swap : (a b : ℕ) → a + b ≡ b + a
    swap a b = omega arith

-- what is read where the snippet stops
pub record Stops (split : Bool) (macros : ℕ) (all : List Char) (h : BuiltSnippet) (how : NoteEnd) (bytes index : ℕ) : Type 0 where
  pub splits : IsSplitPoint h.kept bytes
  pub kept_is : take bytes h.kept ≡ encodes (kept_by (stop_after split [] all).mark (stop_after split [] all).back)
  pub findings_are : h.findings ≡ findings_of (concat_of (note_events split macros all))
  pub how_is : ending_at how index ≡ ending_by (stop_after split [] all).mark (stop_after split [] all).back

-- at a mark
pub stops_at : (split : Bool) (macros : ℕ) (all back xs : List Char) (x : Char) (stage next : NoteStage) (h after : BuiltSnippet) (index bytes : ℕ) (how : NoteEnd)
    → Reaches split macros all back (x ∷ xs) stage h index → PushIsAdded stage next x h after → after.end ≡ Some (how, bytes) → index < 2 ^ 64
    → Stops split macros all after how bytes index
stops_at split macros all back xs x stage next h after index bytes how r f e l = elim (is_emitted split macros back x r.over) [
  | inl n ↦ absurd (let g = goes split macros back x r.over n in some_none _ after.end e (here.end_is ∙ (g.no_end h.end ∙ r.open_end)))
  | inr n ↦ (let g = some_parts _ _ _ _ (sym e ∙ (here.end_is ∙ (ap (end_of h.end) n.1 ∙ (end_plain (point back x) h.end).1))) in
      let ways : how ≡ end_by_mark x.c = g.0 in
      let size : bytes ≡ bytes_of (trim gabc (kept back)) = g.1 in
      let same : after.kept ≡ encodes (kept back) = here.kept_is ∙ (ap (λ (t : List ℕ). h.kept ++ encodes t) (ap kept_of n.1 ∙ (end_plain (point back x) None).0) ∙ (append-nil h.kept ∙ r.kept_is)) in
      let trims = trim_trims gabc refl (kept back) in
      let fits : length after.kept < 2 ^ 64 = omega (arith, bytes_encodes (kept back), ap (λ (t : List ℕ). length t) same, r.fits) in
      let c = cuts after.kept (trim gabc (kept back)) trims.rest bytes (same ∙ ap encodes trims.cut) (ap scalars (sym trims.cut) ∙ r.chars) fits size in
      let stop : stop_after split [] all ≡ record { back = back; mark = Some x.c } = r.stop ∙ ap (λ (a : Bool). cond a (record { back = back; mark = Some x.c }) (stop_after split (x ∷ back) xs)) n.0 in
      record {
        splits = c.splits;
        kept_is = c.prefix ∙ ap (λ (s : SnippetStop). encodes (kept_by s.mark s.back)) (sym stop);
        findings_are = here.findings ∙ (ap (λ (t : List Finding). h.findings ++ t) (sym (append-nil (findings_of (events_at split macros (point back x))))
            ∙ ap (λ (t : List Finding). findings_of (events_at split macros (point back x)) ++ t)
            (sym (ap (λ (o : List (List NoteEvent)). findings_of (concat_of o)) (over_emits split macros xs (x ∷ back) (ap (λ (a : Bool). a || is_over split back) n.0)) ∙ ap findings_of (joined_silence xs))))
            ∙ (ap (λ (t : List Finding). h.findings ++ t) (sym (findings_append (events_at split macros (point back x)) (concat_of (note_events_after split macros (x ∷ back) xs)))) ∙ r.findings));
        how_is = ap (λ (w : NoteEnd). ending_at w index) ways ∙ (ap (λ (i : ℕ). ending_at (end_by_mark x.c) i) r.index_is ∙ ap (λ (s : SnippetStop). ending_by s.mark s.back) (sym stop));
      })
]
  where
    here : BuiltHere split macros back x next h after
    here = built_here split macros back x stage next h after r.rest f

-- at the end of the characters
pub stops_cut : (split : Bool) (macros : ℕ) (all back : List Char) (stage : NoteStage) (h after : BuiltSnippet) (index : ℕ)
    → Reaches split macros all back [] stage h index → EndIsAdded stage h after → index < 2 ^ 64
    → (how : NoteEnd) × (bytes : ℕ) × (after.end ≡ Some (how, bytes)) × Stops split macros all after how bytes index
stops_cut split macros all back stage h after index r f l =
    let emitted : f.events ≡ cut_events split back = (parts _ _ _ _ (sym f.law ∙ r.rest [])).0 in
    let place : Place = cond (in_raw (kept back)) (opener back) (record { line = 0; column = 0 }) in
    let events : cut_events split back ≡ Ended (Cut place) (bytes_of (kept back)) ∷ [] = ap (λ (o : Bool). cond o [] (Ended (Cut place) (bytes_of (kept back)) ∷ [])) r.over in
    let all_is : after ≡ record h { end = Some (Cut place, bytes_of (kept back)) } = f.built ∙ ap (with_events h) (emitted ∙ events) in
    let same : after.kept ≡ encodes (kept back) = ap (λ (y : BuiltSnippet). y.kept) all_is ∙ r.kept_is in
    let fits : length after.kept < 2 ^ 64 = omega (arith, bytes_encodes (kept back), ap (λ (t : List ℕ). length t) same, r.fits) in
    let c = cuts after.kept (kept back) [] (bytes_of (kept back)) (same ∙ ap encodes (sym (append-nil (kept back)))) (ap scalars (append-nil (kept back)) ∙ r.chars) fits refl in (
      Cut place,
      bytes_of (kept back),
      ap (λ (y : BuiltSnippet). y.end) all_is,
      record {
        splits = c.splits;
        kept_is = c.prefix ∙ ap (λ (s : SnippetStop). encodes (kept_by s.mark s.back)) (sym r.stop);
        findings_are = ap (λ (y : BuiltSnippet). y.findings) all_is ∙ (sym (append-nil h.findings)
            ∙ (ap (λ (o : List NoteEvent). h.findings ++ findings_of (o ++ [])) (sym events) ∙ r.findings));
        how_is = ap (λ (s : SnippetStop). ending_by s.mark s.back) (sym r.stop);
      },
    )

-- ---- the values of the loop

-- the next place
pub place_fits : (p : Place) (c n m : ℕ) → p.line + n < 2 ^ 64 → p.column + n < 2 ^ 64 → m + 1 ≤ n
    → ((next_place p c).line + m < 2 ^ 64) × ((next_place p c).column + m < 2 ^ 64)
place_fits p c n m l k h = grind arith

pub first_scalar : (c : ℕ) (cs : List ℕ) → scalars (c ∷ cs) ≡ true → scalar c ≡ true
first_scalar c cs e = grind arith
