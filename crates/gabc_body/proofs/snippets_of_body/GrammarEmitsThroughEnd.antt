-- Where a snippet ends, and what it emits through its end: for GABC and NABC alike.
use Rattle.std.proofs.Common.{◌≡◌, ◌⊎◌, inl, inr, ℕ, ◌+◌, ◌≤◌, Bool, true, false, ◌==◌, ◌&&◌, ◌||◌, eqb-true, if◌then◌else◌, List, [], ◌∷◌, ◌++◌, map, Option, Some, None, refl, sym, ap, ◌∙◌, arith, append_assoc, append-nil}
use Rattle.std.specs.Char.{len_utf8}
use Rattle.std.specs.List.{list_any}
use Rattle.std.proofs.lemmas.List.{map-append}
use Rattle.std.proofs.lemmas.Bool.{true≢false}
use Rattle.std.proofs.Math.Bool.{and-false, and-true}
use Rattle.gabc_notes.specs.Ends.{IsMarkOf}
use Rattle.gabc_notes.specs.Events.{end_by_mark}
use Rattle.gabc_notes.proofs.grammar.LawsOfEventsByPoint.{kept_append}
use Rattle.gabc_places.specs.StageLaw.{concat_of}
use Rattle.gabc_places.specs.declared.place.Place.{Place}
use Rattle.gabc_places.specs.declared.place.Char.{Char}
use Rattle.gabc_text.specs.Events.{codes_of}
use Rattle.gabc_notes.specs.declared.stage.NoteEnd.{NoteEnd}
use Rattle.gabc_notes.specs.declared.stage.NoteEnd.TheVariants as note_end
use Rattle.gabc_notes.specs.declared.stage.NoteEvent.{NoteEvent}
use Rattle.gabc_notes.specs.declared.stage.NoteEvent.TheVariants as note
use Rattle.gabc_notes.specs.SnippetRead.{kept_of, ends_of}
use Rattle.gabc_body.specs.declared.events.BodyEvent.{BodyEvent}
use Rattle.gabc_body.specs.declared.events.BodyEvent.TheVariants.{Notes}
use Rattle.gabc_body.specs.Events.{PartAhead, InNotes, is_next, is_close, next_line, note_event}
use Rattle.gabc_body.specs.Units.{Mark, Opens, Next, Closes, events_through, Endless, EndsAfter}
use Rattle.gabc_body.proofs.texts_of_body.SeamsOfCharacters.{size, size_append, size_of_one}

-- ---- events without an end

ends_append : (xs ys : List NoteEvent) → ends_of xs ≡ [] → ends_of (xs ++ ys) ≡ ends_of ys
ends_append [] ys h = refl
ends_append (note.Ended how n ∷ xs) ys h = cc
ends_append (_ ∷ xs) ys h = ends_append xs ys h

pub few_one : (x : Char) (more : List ℕ) → more ≡ [] → size (x.c ∷ more) ≤ len_utf8 x.c
few_one x more h = let one : size (x.c ∷ more) ≡ len_utf8 x.c = ap (λ ks. size (x.c ∷ ks)) h ∙ size_of_one x.c in omega arith

-- ---- a grammar of snippets

-- What is emitted of a character in a state: no end, and what is kept is kept after what was kept before.
pub record Goes {S : Type 0} (Running : S → Type 0) (kept : S → List ℕ) (next : S → Char → S) (s : S) (x : Char) (emitted : List NoteEvent) : Type 0 where
  pub silent : ends_of emitted ≡ []
  pub kept_is : kept (next s x) ≡ kept s ++ kept_of emitted
  pub few : size (kept_of emitted) ≤ len_utf8 x.c
  pub runs : Running (next s x)

-- a character of which nothing is kept
pub keeps_none : {S : Type 0} {Running : S → Type 0} {kept : S → List ℕ} {next : S → Char → S} {s : S} {x : Char} {emitted : List NoteEvent} → ends_of emitted ≡ [] → kept_of emitted ≡ []
    → kept (next s x) ≡ kept s → Running (next s x) → Goes Running kept next s x emitted
keeps_none {kept = kept} {s = s} silent none same runs = record { silent = silent; kept_is = rw none (same ∙ sym (append-nil (kept s))); few = rw none (omega arith); runs = runs }

-- how this character ends a snippet: a `|` or a `)`
abbrev pub IsMark : ℕ → NoteEnd → Type 0
IsMark c note_end.Next = c ≡ 124
IsMark c note_end.Close = c ≡ 41
IsMark c (note_end.Cut place) = ⊥

pub is_mark_so : (split : Bool) (how : NoteEnd) (c : ℕ) → IsMarkOf split how c → IsMark c how
is_mark_so split note_end.Next c m = m.0
is_mark_so split note_end.Close c m = m
is_mark_so split (note_end.Cut place) c m = m

pub mark_is : (c : ℕ) (split : Bool) → ((c == 41) || (split && (c == 124))) ≡ true → IsMarkOf split (end_by_mark c) c
mark_is c split h = by (c == 124) (c == 41) refl refl h
  where
    by : (a b : Bool) → (c == 124) ≡ a → (c == 41) ≡ b → (b || (split && a)) ≡ true → IsMarkOf split (if a then note_end.Next else note_end.Close) c
    by true true e f k = absurd (let x = eqb-true c 124 e in let y = eqb-true c 41 f in omega (arith, x, y))
    by true false e f k = (eqb-true c 124 e, sym (and-true split) ∙ k)
    by false true e f k = eqb-true c 41 f
    by false false e f k = absurd (true≢false (sym k ∙ and-false split))

-- What is emitted of a character that ends the snippet: nothing kept, and the end with the bytes of the trimmed text.
pub record Stops (splits : Bool) (count c : ℕ) (emitted : List NoteEvent) : Type 0 where
  pub mids : List NoteEvent
  pub how : NoteEnd
  pub events_are : emitted ≡ mids ++ note.Ended how count ∷ []
  pub silent : ends_of mids ≡ []
  pub none : kept_of mids ≡ []
  pub is_mark : IsMarkOf splits how c

-- what is emitted of the end of the input
pub record Cuts (emitted : List NoteEvent) : Type 0 where
  pub place : Place
  pub count : ℕ
  pub events_are : emitted ≡ note.Ended (note_end.Cut place) count ∷ []

-- how snippets are emitted: state by state, where a `|` ends one or not
pub record Grammar (S : Type 0) : Type 1 where
  pub splits : Bool
  pub Running : S → Type 0
  pub emitted_at : S → Char → List NoteEvent
  pub cut : S → List NoteEvent
  pub next : S → Char → S
  pub kept : S → List ℕ
  pub count : List ℕ → ℕ
  pub goes : (s : S) (x : Char) → Running s → Goes Running kept next s x (emitted_at s x) ⊎ Stops splits (count (kept s)) x.c (emitted_at s x)
  pub cuts : (s : S) → Running s → Cuts (cut s)

abbrev pub lists : {S : Type 0} → Grammar S → S → List Char → List (List NoteEvent)
lists g s [] = g.cut s ∷ []
lists g s (x ∷ xs) = g.emitted_at s x ∷ lists g (g.next s x) xs

-- the state after these characters
abbrev pub run : {S : Type 0} → Grammar S → S → List Char → S
run g s [] = s
run g s (x ∷ xs) = run g (g.next s x) xs

-- ---- the first mark

-- how a snippet of a line ended that ended so
abbrev pub Marks : ℕ → ℕ → Place → NoteEnd → Mark → Type 0
Marks lines line opened how Opens = ⊥
Marks lines line opened how (Next l o) = (how ≡ note_end.Next) × (l ≡ next_line lines line) × (o ≡ opened)
Marks lines line opened how Closes = how ≡ note_end.Close

-- what a snippet emits through its end: before the end what is kept, then the end
pub record EndEmitted {S : Type 0} (g : Grammar S) (lines line : ℕ) (opened : Place) (s : S) (prefix : List Char) (end : Char) (mark : Mark) (events : List BodyEvent) : Type 0 where
  pub mids : List NoteEvent
  pub how : NoteEnd
  pub emitted_are : events ≡ map (note_event line opened) mids ++ Notes line (note.Ended how (g.count (g.kept s ++ kept_of mids))) ∷ []
  pub silent : ends_of mids ≡ []
  pub few : size (kept_of mids) ≤ size (codes_of prefix)
  pub marks : Marks lines line opened how mark
  pub kept_is : g.kept s ++ kept_of mids ≡ g.kept (run g s prefix)
  pub is_mark : IsMarkOf g.splits how end.c

-- what a snippet emits that the end of the input cuts
pub record CutEmitted (line : ℕ) (opened : Place) (events : List BodyEvent) : Type 0 where
  pub mids : List NoteEvent
  pub place : Place
  pub count : ℕ
  pub emitted_are : events ≡ map (note_event line opened) mids ++ Notes line (note.Ended (note_end.Cut place) count) ∷ []
  pub silent : ends_of mids ≡ []

module _ (lines line : ℕ) (opened : Place) where
  abbrev mark_by : Bool → Bool → Option Mark
  mark_by next close = if next then Some (Next (next_line lines line) opened) else if close then Some Closes else None

  abbrev mark_of : List NoteEvent → Option Mark
  mark_of emitted = mark_by (list_any is_next emitted) (list_any is_close emitted)

  silent_mark : (emitted : List NoteEvent) → ends_of emitted ≡ [] → mark_of emitted ≡ None
  silent_mark [] h = refl
  silent_mark (note.Ended how n ∷ emitted) h = cc
  silent_mark (_ ∷ emitted) h = silent_mark emitted h

  mark_last : (mids : List NoteEvent) (how : NoteEnd) (n : ℕ) → ends_of mids ≡ [] → mark_of (mids ++ note.Ended how n ∷ []) ≡ mark_of (note.Ended how n ∷ [])
  mark_last [] how n h = refl
  mark_last (note.Ended end m ∷ mids) how n h = cc
  mark_last (_ ∷ mids) how n h = mark_last mids how n h

  mark_emitted : (how : NoteEnd) (n c : ℕ) → IsMark c how → (mark : Mark) → mark_of (note.Ended how n ∷ []) ≡ Some mark → Marks lines line opened how mark
  mark_emitted how n c k mark h = grind arith

  marked : (how : NoteEnd) (n c : ℕ) → IsMark c how → mark_of (note.Ended how n ∷ []) ≡ None → ⊥
  marked how n c k h = grind arith

  mark_is_emitted : (how : NoteEnd) (n c : ℕ) → IsMark c how → note_event line opened (note.Ended how n) ≡ Notes line (note.Ended how n)
  mark_is_emitted how n c k = grind arith

  module _ {S : Type 0} (g : Grammar S) where
    abbrev part_at : S → List Char → PartAhead
    part_at s xs = InNotes line opened (lists g s xs)

    -- what a stopping character emits
    stop_emitted : (count c : ℕ) (emitted : List NoteEvent) (st : Stops g.splits count c emitted) → map (note_event line opened) emitted ≡ map (note_event line opened) st.mids ++ Notes line (note.Ended st.how count) ∷ []
    stop_emitted count c emitted st =
        ap (map (note_event line opened)) st.events_are
        ∙ map-append (note_event line opened) st.mids (note.Ended st.how count ∷ [])
        ∙ ap (λ t. map (note_event line opened) st.mids ++ t ∷ []) (mark_is_emitted st.how count c (is_mark_so g.splits st.how c st.is_mark))

    -- what is kept after a character is kept after what it keeps
    kept_on : (s : S) (x : Char) (mids : List NoteEvent) → g.kept (g.next s x) ≡ g.kept s ++ kept_of (g.emitted_at s x) → g.kept (g.next s x) ++ kept_of mids ≡ g.kept s ++ kept_of (g.emitted_at s x ++ mids)
    kept_on s x mids h = grind (arith, append_assoc, kept_append)

    events_on : (s : S) (x : Char) (mids : List NoteEvent) (later : List BodyEvent) (last : BodyEvent) → later ≡ map (note_event line opened) mids ++ last ∷ []
        → map (note_event line opened) (g.emitted_at s x) ++ later ≡ map (note_event line opened) (g.emitted_at s x ++ mids) ++ last ∷ []
    events_on s x mids later last h = grind (arith, append_assoc, map-append)

    few_on : (s : S) (x : Char) (mids : List NoteEvent) (prefix : List Char) → size (kept_of (g.emitted_at s x)) ≤ len_utf8 x.c → size (kept_of mids) ≤ size (codes_of prefix)
        → size (kept_of (g.emitted_at s x ++ mids)) ≤ size (codes_of (x ∷ prefix))
    few_on s x mids prefix h k =
        let all : size (kept_of (g.emitted_at s x ++ mids)) ≡ size (kept_of (g.emitted_at s x)) + size (kept_of mids) = ap size (kept_append (g.emitted_at s x) mids) ∙ size_append (kept_of (g.emitted_at s x)) (kept_of mids) in
        let more : size (codes_of (x ∷ prefix)) ≡ len_utf8 x.c + size (codes_of prefix) = size_append (x.c ∷ []) (codes_of prefix) ∙ ap (λ n. n + size (codes_of prefix)) (size_of_one x.c) in
        omega arith

    few_none : (mids : List NoteEvent) → kept_of mids ≡ [] → size (kept_of mids) ≤ 0
    few_none mids h = let none : size (kept_of mids) ≡ 0 = ap size h in omega arith

    ended_here : (s : S) (end : Char) (rest : List Char) (mark : Mark) → mark_of (g.emitted_at s end) ≡ Some mark
        → Goes g.Running g.kept g.next s end (g.emitted_at s end) ⊎ Stops g.splits (g.count (g.kept s)) end.c (g.emitted_at s end) → EndEmitted g lines line opened s [] end mark (concat_of (events_through (part_at s (end ∷ rest)) []))
    ended_here s end rest mark h (inl go) = absurd (let e = silent_mark (g.emitted_at s end) go.silent in cc)
    ended_here s end rest mark h (inr st) = record {
      mids = st.mids;
      how = st.how;
      emitted_are = append-nil (map (note_event line opened) (g.emitted_at s end)) ∙ stop_emitted (g.count (g.kept s)) end.c (g.emitted_at s end) st
          ∙ ap (λ ks. map (note_event line opened) st.mids ++ Notes line (note.Ended st.how (g.count ks)) ∷ []) (sym (append-nil (g.kept s)) ∙ ap (λ ks. g.kept s ++ ks) (sym st.none));
      silent = st.silent;
      few = few_none st.mids st.none;
      kept_is = ap (λ ks. g.kept s ++ ks) st.none ∙ append-nil (g.kept s);
      is_mark = st.is_mark;
      marks = mark_emitted st.how (g.count (g.kept s)) end.c (is_mark_so g.splits st.how end.c st.is_mark) mark (sym (mark_last st.mids st.how (g.count (g.kept s)) st.silent) ∙ ap mark_of (sym st.events_are) ∙ h);
    }

    no_stop : (s : S) (x : Char) → mark_of (g.emitted_at s x) ≡ None → Stops g.splits (g.count (g.kept s)) x.c (g.emitted_at s x) → ⊥
    no_stop s x h st = marked st.how (g.count (g.kept s)) x.c (is_mark_so g.splits st.how x.c st.is_mark) (sym (mark_last st.mids st.how (g.count (g.kept s)) st.silent) ∙ ap mark_of (sym st.events_are) ∙ h)

    ended_on : (s : S) (x : Char) (prefix : List Char) (end : Char) (rest : List Char) (mark : Mark) → mark_of (g.emitted_at s x) ≡ None
        → Goes g.Running g.kept g.next s x (g.emitted_at s x) ⊎ Stops g.splits (g.count (g.kept s)) x.c (g.emitted_at s x)
        → (g.Running (g.next s x) → EndEmitted g lines line opened (g.next s x) prefix end mark (concat_of (events_through (part_at (g.next s x) (prefix ++ end ∷ rest)) prefix)))
        → EndEmitted g lines line opened s (x ∷ prefix) end mark (concat_of (events_through (part_at s (x ∷ prefix ++ end ∷ rest)) (x ∷ prefix)))
    ended_on s x prefix end rest mark h k later = grind (arith, events_on, kept_on, ends_append, few_on, no_stop)

    pub ended : (s : S) (prefix : List Char) (end : Char) (rest : List Char) (mark : Mark) → g.Running s → EndsAfter lines (part_at s (prefix ++ end ∷ rest)) prefix mark
        → EndEmitted g lines line opened s prefix end mark (concat_of (events_through (part_at s (prefix ++ end ∷ rest)) prefix))
    ended s [] end rest mark r h = ended_here s end rest mark h (g.goes s end r)
    ended s (x ∷ prefix) end rest mark r h = ended_on s x prefix end rest mark h.0 (g.goes s x r) (λ k. ended (g.next s x) prefix end rest mark k h.1)

    -- ---- no mark

    cut_here : (s : S) → Cuts (g.cut s) → CutEmitted line opened (concat_of (events_through (part_at s []) []))
    cut_here s c = record {
      mids = [];
      place = if c.place.line == 0 then opened else c.place;
      count = c.count;
      emitted_are = ap (λ emitted. map (note_event line opened) emitted ++ []) c.events_are;
      silent = refl;
    }

    cut_on : (s : S) (x : Char) (last : List Char) → mark_of (g.emitted_at s x) ≡ None
        → Goes g.Running g.kept g.next s x (g.emitted_at s x) ⊎ Stops g.splits (g.count (g.kept s)) x.c (g.emitted_at s x)
        → (g.Running (g.next s x) → CutEmitted line opened (concat_of (events_through (part_at (g.next s x) last) last)))
        → CutEmitted line opened (concat_of (events_through (part_at s (x ∷ last)) (x ∷ last)))
    cut_on s x last h (inl go) later = let on = later go.runs in record {
      mids = g.emitted_at s x ++ on.mids;
      place = on.place;
      count = on.count;
      emitted_are = events_on s x on.mids (concat_of (events_through (part_at (g.next s x) last) last)) (Notes line (note.Ended (note_end.Cut on.place) on.count)) on.emitted_are;
      silent = ends_append (g.emitted_at s x) on.mids go.silent ∙ on.silent;
    }
    cut_on s x last h (inr st) later = absurd (no_stop s x h st)

    pub endless : (s : S) (last : List Char) → g.Running s → Endless lines (part_at s last) last → CutEmitted line opened (concat_of (events_through (part_at s last) last))
    endless s [] r h = cut_here s (g.cuts s r)
    endless s (x ∷ last) r h = cut_on s x last h.0 (g.goes s x r) (λ k. endless (g.next s x) last k h.1)
