-- What a text emits through its end.
use Rattle.std.proofs.Common.{◌≡◌, ℕ, suc, ◌+◌, ◌<◌, ◌≤◌, Bool, false, if◌then◌else◌, List, [], ◌∷◌, ◌++◌, length, drop, Option, Some, None, refl, sym, ap, subst, ◌∙◌, arith, append_assoc, append-nil, length-append}
use Rattle.std.specs.List.{list_any}
use lib.Utf8.{encodes}
use Rattle.std.proofs.lemmas.List.{drop_at, map-append}
use Rattle.std.proofs.lemmas.Grind.{flat_map-append}
use Rattle.gabc_text.proofs.events.EventsByPointAreEvents.{joined_nothing}
use Rattle.gabc_text.proofs.events.EventsBuildText.{events_append}
use Rattle.gabc_places.specs.StageLaw.{concat_of}
use Rattle.gabc_places.specs.declared.place.Place.{Place}
use Rattle.gabc_places.specs.declared.place.Char.{Char}
use Rattle.gabc_text.specs.declared.text_event.TextEnd.{TextEnd}
use Rattle.gabc_text.specs.declared.text_event.TextEnd.TheVariants as text_end
use Rattle.gabc_text.specs.declared.text_event.TextEvent.{TextEvent}
use Rattle.gabc_text.specs.declared.text_event.TextEvent.TheVariants as text
use Rattle.gabc_text.specs.BuiltText.{BuiltText as Gathered, with_events, with_event, empty_text, text_built_at}
use Rattle.gabc_text.specs.Ends.{ends_in, Leaves, EndsOnce}
use Rattle.gabc_text.specs.Events.{codes_of, events_by_point, no_events_each}
use Rattle.gabc_text.specs.View.{kept}
use Rattle.gabc_text.specs.TextRead.{view_in}
use Rattle.gabc_body.specs.declared.events.BodyEvent.{BodyEvent}
use Rattle.gabc_body.specs.declared.events.BodyEvent.TheVariants.{Text}
use Rattle.gabc_body.specs.Events.{InText, is_text_end, texts_by_definition}
use Rattle.gabc_body.specs.Units.{Mark, Opens, events_through, Endless, EndsAfter}
use Rattle.gabc_body.specs.witness.TextEvents.{text_events}

-- ---- events without an end

pub ends_apart : (xs ys : List TextEvent) → ends_in (xs ++ ys) ≡ [] → (ends_in xs ≡ []) × (ends_in ys ≡ [])
ends_apart [] ys h = (refl, h)
ends_apart (text.Ended how ∷ xs) ys h = cc
ends_apart (_ ∷ xs) ys h = ends_apart xs ys h

ends_append : (xs ys : List TextEvent) → ends_in xs ≡ [] → ends_in (xs ++ ys) ≡ ends_in ys
ends_append [] ys h = refl
ends_append (text.Ended how ∷ xs) ys h = cc
ends_append (_ ∷ xs) ys h = ends_append xs ys h

pub any_after : (xs ys : List TextEvent) → ends_in xs ≡ [] → list_any is_text_end (xs ++ ys) ≡ list_any is_text_end ys
any_after [] ys h = refl
any_after (text.Ended how ∷ xs) ys h = cc
any_after (_ ∷ xs) ys h = any_after xs ys h

pub none_ends : (xs : List TextEvent) → ends_in xs ≡ [] → list_any is_text_end xs ≡ false
none_ends xs h = ap (list_any is_text_end) (sym (append-nil xs)) ∙ any_after xs [] h

-- ---- the first `(`

-- no `(` ends the text
abbrev pub IsOpenEnd : TextEnd → Type 0
IsOpenEnd text_end.Notes = ⊥
IsOpenEnd _ = Unit {0}

module _ (lines : ℕ) where
  abbrev mark_by : Bool → Option Mark
  mark_by b = if b then Some Opens else None

  nothing_ends : (rest : List ℕ) (xs : List Char) (mark : Mark) → EndsAfter lines (InText (no_events_each rest)) xs mark → ⊥
  nothing_ends [] (x ∷ xs) mark h = nothing_ends [] xs mark h.1
  nothing_ends (c ∷ rest) (x ∷ xs) mark h = nothing_ends rest xs mark h.1
  nothing_ends [] [] mark h = cc
  nothing_ends (c ∷ rest) [] mark h = cc

  nothing_through : (rest : List ℕ) (xs : List Char) → concat_of (events_through (InText (no_events_each rest)) xs) ≡ []
  nothing_through [] (x ∷ xs) = nothing_through [] xs
  nothing_through (c ∷ rest) (x ∷ xs) = nothing_through rest xs
  nothing_through [] [] = refl
  nothing_through (c ∷ rest) [] = refl

  abbrev all_lists : List (List TextEvent) → List TextEvent → TextEnd → List ℕ → List (List TextEvent)
  all_lists before last how rest = before ++ (last ++ text.Ended how ∷ []) ∷ no_events_each rest

  -- what is emitted up to the end, and the end
  abbrev through : List (List TextEvent) → List TextEvent → TextEnd → List BodyEvent
  through before last how = text_events (concat_of before ++ last) ++ Text (text.Ended how) ∷ []

  last_through : (last : List TextEvent) (how : TextEnd) → text_events (last ++ text.Ended how ∷ []) ++ [] ≡ through [] last how
  last_through last how = append-nil (text_events (last ++ text.Ended how ∷ [])) ∙ map-append (λ (o : TextEvent). Text o) last (text.Ended how ∷ [])

  more_through : (b : List TextEvent) (before : List (List TextEvent)) (last : List TextEvent) (how : TextEnd) (later : List BodyEvent) → later ≡ through before last how
      → text_events b ++ later ≡ through (b ∷ before) last how
  more_through b before last how later h = grind (arith, append_assoc, map-append)

  last_mark : (how : TextEnd) (mark : Mark) → mark_by (list_any is_text_end (text.Ended how ∷ [])) ≡ Some mark → (how ≡ text_end.Notes) × (mark ≡ Opens)
  last_mark how mark h = grind arith

  no_last_mark : (how : TextEnd) → mark_by (list_any is_text_end (text.Ended how ∷ [])) ≡ None → IsOpenEnd how
  no_last_mark how h = grind arith

  -- the end stands where the `(` stands
  pub ends_through : (before : List (List TextEvent)) (last : List TextEvent) (how : TextEnd) (rest : List ℕ) (prefix : List Char) (mark : Mark)
      → ends_in (concat_of before) ≡ [] → ends_in last ≡ [] → EndsAfter lines (InText (all_lists before last how rest)) prefix mark
      → (concat_of (events_through (InText (all_lists before last how rest)) prefix) ≡ through before last how) × ((how ≡ text_end.Notes) × (mark ≡ Opens)) × (length prefix ≡ length before)
  ends_through [] last how rest [] mark n l h = (last_through last how, last_mark how mark (ap mark_by (sym (any_after last (text.Ended how ∷ []) l)) ∙ h), refl)
  ends_through [] last how rest (x ∷ xs) mark n l h = absurd (nothing_ends rest xs mark h.1)
  ends_through (b ∷ before) last how rest [] mark n l h = absurd (let e = ap mark_by (none_ends b (ends_apart b (concat_of before) n).0) in cc)
  ends_through (b ∷ before) last how rest (x ∷ xs) mark n l h =
      let on = ends_through before last how rest xs mark (ends_apart b (concat_of before) n).1 l h.1 in
      (more_through b before last how (concat_of (events_through (InText (all_lists before last how rest)) xs)) on.0, on.1, ap (λ k. suc k) on.2)

  pub endless_through : (before : List (List TextEvent)) (last : List TextEvent) (how : TextEnd) (rest : List ℕ) (xs : List Char)
      → ends_in last ≡ [] → length before ≤ length xs → Endless lines (InText (all_lists before last how rest)) xs
      → (concat_of (events_through (InText (all_lists before last how rest)) xs) ≡ through before last how) × (length before < length xs → IsOpenEnd how)
  endless_through [] last how rest [] l few h = (last_through last how, λ less. absurd (omega (arith, less)))
  endless_through [] last how rest (x ∷ xs) l few h =
      (ap (λ ts. text_events (last ++ text.Ended how ∷ []) ++ ts) (nothing_through rest xs) ∙ last_through last how, λ less. no_last_mark how (ap mark_by (sym (any_after last (text.Ended how ∷ []) l)) ∙ h.0))
  endless_through (b ∷ before) last how rest [] l few h = absurd (omega arith)
  endless_through (b ∷ before) last how rest (x ∷ xs) l few h =
      let on = endless_through before last how rest xs l (omega arith) h.1 in
      (more_through b before last how (concat_of (events_through (InText (all_lists before last how rest)) xs)) on.0, λ less. on.1 (omega (arith, less)))

-- ---- a text

pub length_of_codes : (xs : List Char) → length (codes_of xs) ≡ length xs
length_of_codes [] = refl
length_of_codes (x ∷ xs) = ap (λ n. suc n) (length_of_codes xs)

pub codes_append : (xs ys : List Char) → codes_of (xs ++ ys) ≡ codes_of xs ++ codes_of ys
codes_append [] ys = refl
codes_append (x ∷ xs) ys = ap (λ cs. x.c ∷ cs) (codes_append xs ys)

-- the character that ends a text is a `(`
pub text_mark : (ends : (at : Place) (t : List ℕ) → EndsOnce at t) (lines : ℕ) (at : Place) (prefix : List Char) (end : Char) (rest : List Char) (mark : Mark) → EndsAfter lines (InText (texts_by_definition at (prefix ++ end ∷ rest))) prefix mark → end.c ≡ 40
text_mark ends lines at prefix end rest mark h =
    let xs = prefix ++ end ∷ rest in
    let e = ends at (codes_of xs) in
    let k : EndsAfter lines (InText (all_lists lines e.before e.last e.how e.rest)) prefix mark = subst (λ ls. EndsAfter lines (InText ls) prefix mark) e.events_are h in
    let ended = ends_through lines e.before e.last e.how e.rest prefix mark e.none_before e.none_in_last k in
    let left : e.rest ≡ 40 ∷ drop 1 e.rest = subst (λ how. Leaves how e.rest) ended.1.0 e.leaves in
    let size : length (codes_of prefix) ≡ length e.prefix = length_of_codes prefix ∙ ended.2 ∙ e.one_each in
    let all : codes_of prefix ++ end.c ∷ codes_of rest ≡ e.prefix ++ e.rest = sym (codes_append prefix (end ∷ rest)) ∙ e.text_is in
    let after : end.c ∷ codes_of rest ≡ 40 ∷ drop 1 e.rest =
    sym (drop_at (codes_of prefix) (end.c ∷ codes_of rest) (length e.prefix) size) ∙ ap (drop (length e.prefix)) all ∙ drop_at e.prefix e.rest (length e.prefix) refl ∙ left in
    cc

-- what a text emits through its end: what is emitted before the end gathers to its kept text and its view
pub record TextEmitted (t : List ℕ) (how : TextEnd) (events : List BodyEvent) : Type 0 where
  pub mids : List TextEvent
  pub emitted_are : events ≡ text_events mids ++ Text (text.Ended how) ∷ []
  pub silent : ends_in mids ≡ []
  pub kept_is : (with_events empty_text mids).kept ≡ encodes (kept t)
  pub view_is : (with_events empty_text mids).view ≡ view_in t

module _ (ends : (at : Place) (t : List ℕ) → EndsOnce at t) (emits : (at : Place) (t : List ℕ) → with_events empty_text (concat_of (events_by_point at t)) ≡ text_built_at at t) (lines : ℕ) (at : Place) where
  joined_all : (before : List (List TextEvent)) (last : List TextEvent) (how : TextEnd) (rest : List ℕ) → concat_of (all_lists lines before last how rest) ≡ (concat_of before ++ last) ++ text.Ended how ∷ []
  joined_all before last how rest = grind (arith, flat_map-append, joined_nothing, append-nil, append_assoc)

  gathered : (t : List ℕ) → (let e = ends at t in with_events empty_text ((concat_of e.before ++ e.last) ++ text.Ended e.how ∷ []) ≡ text_built_at at t)
  gathered t = grind (arith, joined_all)

  with_end : (mids : List TextEvent) (how : TextEnd) → with_events empty_text (mids ++ text.Ended how ∷ []) ≡ with_event (with_events empty_text mids) (text.Ended how)
  with_end mids how = events_append empty_text mids (text.Ended how ∷ [])

  text_emitted_by : (t : List ℕ) (events : List BodyEvent) → (let e = ends at t in events ≡ through lines e.before e.last e.how) → TextEmitted t (ends at t).how events
  text_emitted_by t events h = let e = ends at t in record {
    mids = concat_of e.before ++ e.last;
    emitted_are = h;
    silent = ends_append (concat_of e.before) e.last e.none_before ∙ e.none_in_last;
    kept_is = ap (λ (g : Gathered). g.kept) (sym (with_end (concat_of e.before ++ e.last) e.how) ∙ gathered t);
    view_is = ap (λ (g : Gathered). g.view) (sym (with_end (concat_of e.before ++ e.last) e.how) ∙ gathered t);
  }

  -- a text that ends at its `(`
  pub text_ended : (prefix : List Char) (end : Char) (rest : List Char) (mark : Mark) → (let xs = prefix ++ end ∷ rest in
      EndsAfter lines (InText (texts_by_definition at xs)) prefix mark → TextEmitted (codes_of xs) text_end.Notes (concat_of (events_through (InText (texts_by_definition at xs)) prefix)) × (mark ≡ Opens))
  text_ended prefix end rest mark h =
      let xs = prefix ++ end ∷ rest in
      let e = ends at (codes_of xs) in
      let through_is = ends_through lines e.before e.last e.how e.rest prefix mark e.none_before e.none_in_last (subst (λ ls. EndsAfter lines (InText ls) prefix mark) e.events_are h) in (
        subst (λ how. TextEmitted (codes_of xs) how (concat_of (events_through (InText (texts_by_definition at xs)) prefix))) through_is.1.0
            (text_emitted_by (codes_of xs) (concat_of (events_through (InText (texts_by_definition at xs)) prefix)) (ap (λ ls. concat_of (events_through (InText ls) prefix)) e.events_are ∙ through_is.0)),
        through_is.1.1,
      )

  lengths : (xs : List Char) → (let e = ends at (codes_of xs) in length xs ≡ length e.before + length e.rest)
  lengths xs = grind (arith, length_of_codes, length-append)

  short : (xs : List Char) → length (ends at (codes_of xs)).before ≤ length xs
  short xs = let e = lengths xs in omega arith

  open_by : (xs : List Char) → Endless lines (InText (texts_by_definition at xs)) xs → (how : TextEnd) → (ends at (codes_of xs)).how ≡ how → IsOpenEnd how
  open_by xs h text_end.Notes e =
      let s = ends at (codes_of xs) in
      let all : length xs ≡ length s.before + length s.rest = lengths xs in
      let left : Leaves text_end.Notes s.rest = subst (λ how. Leaves how s.rest) e s.leaves in
      let more : length s.rest ≡ suc (length (drop 1 s.rest)) = ap length left in
      subst IsOpenEnd e ((endless_through lines s.before s.last s.how s.rest xs s.none_in_last (short xs) (subst (λ ls. Endless lines (InText ls) xs) s.events_are h)).1 (omega arith))
  open_by xs h _ e = tt

  -- a text that the end of the input ends
  pub text_endless : (xs : List Char) → Endless lines (InText (texts_by_definition at xs)) xs → (how : TextEnd) × IsOpenEnd how × TextEmitted (codes_of xs) how (concat_of (events_through (InText (texts_by_definition at xs)) xs))
  text_endless xs h = let e = ends at (codes_of xs) in (
    e.how,
    open_by xs h e.how refl,
    text_emitted_by (codes_of xs) (concat_of (events_through (InText (texts_by_definition at xs)) xs))
        (ap (λ ls. concat_of (events_through (InText ls) xs)) e.events_are ∙ (endless_through lines e.before e.last e.how e.rest xs e.none_in_last (short xs) (subst (λ ls. Endless lines (InText ls) xs) e.events_are h)).0),
  )

  -- what is emitted of a text through its end is what it gives
  events_all : (t : List ℕ) → (let e = ends at t in through lines e.before e.last e.how ≡ text_events (concat_of (events_by_point at t)))
  events_all t = grind (arith, map-append, joined_all)

  pub ended_emits : (prefix : List Char) (end : Char) (rest : List Char) (mark : Mark) → (let xs = prefix ++ end ∷ rest in
      EndsAfter lines (InText (texts_by_definition at xs)) prefix mark → concat_of (events_through (InText (texts_by_definition at xs)) prefix) ≡ text_events (concat_of (events_by_point at (codes_of xs))))
  ended_emits prefix end rest mark h =
      let xs = prefix ++ end ∷ rest in
      let e = ends at (codes_of xs) in
      ap (λ ls. concat_of (events_through (InText ls) prefix)) e.events_are
      ∙ (ends_through lines e.before e.last e.how e.rest prefix mark e.none_before e.none_in_last (subst (λ ls. EndsAfter lines (InText ls) prefix mark) e.events_are h)).0
      ∙ events_all (codes_of xs)

  pub endless_emits : (xs : List Char) → Endless lines (InText (texts_by_definition at xs)) xs → concat_of (events_through (InText (texts_by_definition at xs)) xs) ≡ text_events (concat_of (events_by_point at (codes_of xs)))
  endless_emits xs h =
      let e = ends at (codes_of xs) in
      ap (λ ls. concat_of (events_through (InText ls) xs)) e.events_are
      ∙ (endless_through lines e.before e.last e.how e.rest xs e.none_in_last (short xs) (subst (λ ls. Endless lines (InText ls) xs) e.events_are h)).0
      ∙ events_all (codes_of xs)
