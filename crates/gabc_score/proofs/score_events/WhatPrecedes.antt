-- What was gathered after the syllables given stays what these report, with each event more.
use Rattle.std.proofs.Math.Bool.{or-true, or_assoc, or-false}
use Rattle.std.proofs.Common.{◌≡◌, ℕ, suc, ◌+◌, ◌-◌, ◌≤◌, ◌<◌, ◌==◌, ◌&&◌, ◌||◌, ◌⊎◌, inl, inr, not, nat_le, nat_lt, Bool, true, false, cond, List, [], ◌∷◌, ◌++◌, map, length, take, drop, encode_utf8, Option, refl, sym, ap, subst, ◌∙◌, arith, append-nil, length-append, length-drop, length-take}
use Rattle.std.specs.Prelude.{is_some}
use Rattle.std.specs.List.{All}
use Rattle.std.proofs.lemmas.Bool.Decides.{nat_tests}
use Rattle.std.proofs.lemmas.List.{drop-append-le, take-append-le, take-append-drop}
use Rattle.std.proofs.lemmas.List.Elements.{All-nil, All-head, All-tail, All-weaker, All-push}
use Rattle.std.proofs.lemmas.List.Folds.{list_any-append}
use Rattle.gabc_places.specs.declared.place.Span.{Span}
use Rattle.gabc_places.specs.declared.code.Finding.{Finding}
use Rattle.gabc_headers.specs.declared.head_event.HeadEvent.{HeadEvent}
use Rattle.gabc_text.specs.declared.text_event.TextEnd.TheVariants as text_end
use Rattle.gabc_text.specs.declared.text_event.TextEvent.TheVariants as text
use Rattle.gabc_text.specs.declared.text_event.TextPart.TheVariants as part
use Rattle.gabc_notes.specs.FirstNoteOrClef.{first_note_or_clef}
use Rattle.gabc_notes.specs.Items.{items_of}
use Rattle.gabc_notes.specs.declared.item.ItemKind.{ItemKind}
use Rattle.gabc_notes.specs.declared.stage.NoteEnd.TheVariants as note_end
use Rattle.gabc_notes.specs.declared.stage.NoteEvent.TheVariants as note
use Rattle.gabc_score.specs.declared.preceding.Preceding.{Preceding}
use Rattle.gabc_body.specs.declared.events.BodyEvent.{BodyEvent}
use Rattle.gabc_body.specs.declared.events.BodyEvent.TheVariants as event
use Rattle.gabc_score.specs.declared.score_machine.ScorePart.{ScorePart}
use Rattle.gabc_score.specs.declared.score_machine.ScorePart.TheVariants as score_part
use Rattle.gabc_body.specs.declared.snippets.Snippet.{Snippet}
use Rattle.gabc_score.specs.Before.{sounds_on, sounds_in, sounds, with_one, with_each, with_placed}
use Rattle.gabc_body.specs.ScoreEvents.{outputs_of, syllables_in}
use Rattle.gabc_score.specs.ScoreStage.{preceding_past}
use Rattle.gabc_body.specs.Syllable.{UnplacedSyllable, PlacedSyllable, is_seam, prefix_of, slice, text_at, closes}
use Rattle.gabc_body.specs.witness.BodyBuilder.{with_all}
use Rattle.gabc_body.specs.witness.Gatherer.{Gathered, with_event, with_made, with_snippet}
use Rattle.gabc_score.specs.machine.PartPushes.{ClosesLast}
use Rattle.gabc_score.specs.machine.Preceded.{Contexts, EndsBefore, IsPreceded, after_gathered, before_past, past_point}
use Rattle.gabc_score.specs.machine.ScoreStage.{placed_after, with_held}
use Rattle.gabc_body.proofs.score_events.WhatOutputsSay.{given_syllables}
use Rattle.gabc_body.specs.witness.SyllableBuilder.{OpenSyllable, made_from, past_text, snippet_from, nothing_open}
use Rattle.std.proofs.lemmas.Bool.{le-leb, cond_both}

-- ---- a snippet that has ended sounds the same with more text after it

seam_before : (n : ℕ) (kept more : List ℕ) → n < length kept → is_seam (drop n (kept ++ more)) ≡ is_seam (drop n kept)
seam_before n kept more h = ap is_seam (drop-append-le n kept more (omega (arith, h))) ∙ by (drop n kept) (length-drop n kept)
  where
    by : (rest : List ℕ) → length rest ≡ length kept - n → is_seam (rest ++ more) ≡ is_seam rest
    by [] e = absurd (let f : 0 ≡ length kept - n = e in omega (arith, f, h))
    by (b ∷ rest) e = refl

slice_before : (span : Span) (kept more : List ℕ) → span.from ≤ span.to → span.to < length kept → slice span (kept ++ more) ≡ slice span kept
unfolding slice
slice_before span kept more w h = grind (arith, drop-append-le, take-append-le, length-drop)

text_before : (span : Span) (kept more : List ℕ) → span.to < length kept → text_at span (kept ++ more) ≡ text_at span kept
text_before span kept more h = by (nat_le span.from span.to) refl
  where
    tests : List ℕ → Bool
    tests bytes = nat_le span.to (length bytes) && (is_seam (drop span.from bytes) && is_seam (drop span.to bytes))

    same : span.from ≤ span.to → tests (kept ++ more) ≡ tests kept
    same w =
        let l = length-append kept more in
        rw (le-leb span.to (length (kept ++ more)) (omega (arith, l, h)), le-leb span.to (length kept) (omega (arith, h)), seam_before span.from kept more (omega (arith, w, h)), seam_before span.to kept more h) refl

    by : (b : Bool) → nat_le span.from span.to ≡ b → cond (b && tests (kept ++ more)) (slice span (kept ++ more)) [] ≡ cond (b && tests kept) (slice span kept) []
    by false e = refl
    by true e =
        let w : span.from ≤ span.to = grind (arith, nat_tests, e) in
        ap (λ b. cond b (slice span (kept ++ more)) []) (same w) ∙ ap (λ s. cond (tests kept) s []) (slice_before span kept more w h)

sounds_before : (kept more : List ℕ) (ss : List Snippet) → All (EndsBefore (length kept)) ss → sounds_in (kept ++ more) ss ≡ sounds_in kept ss
sounds_before kept more [] h = refl
sounds_before kept more (s ∷ ss) h =
    ap (λ t. ((s.line == 0) && is_some (first_note_or_clef (items_of t))) || sounds_in (kept ++ more) ss) (text_before s.span kept more (All-head (EndsBefore (length kept)) s ss h))
    ∙ ap (λ b. sounds_on kept s || b) (sounds_before kept more ss (All-tail (EndsBefore (length kept)) s ss h))

wider : (n m : ℕ) (ss : List Snippet) → n ≤ m → All (EndsBefore n) ss → All (EndsBefore m) ss
wider n m ss w h = All-weaker (EndsBefore n) (EndsBefore m) (λ s one. omega (arith, one, w)) ss h

-- ---- a snippet more

prefix_rest : (n : ℕ) (kept : List ℕ) → (rest : List ℕ) × (prefix_of n kept ++ rest ≡ kept)
prefix_rest n kept =
    cond_both (is_seam (drop n kept)) (take n kept) kept (λ (p : List ℕ). (rest : List ℕ) × (p ++ rest ≡ kept)) (λ e. (drop n kept, take-append-drop n kept)) (λ e. ([], append-nil kept))

prefix_long : (n from : ℕ) (kept : List ℕ) → from ≤ n → from ≤ length kept → from ≤ length (prefix_of n kept)
prefix_long n from kept h k = cond_both (is_seam (drop n kept)) (take n kept) kept (λ (p : List ℕ). from ≤ length p) (λ e. let l = length-take n kept in grind (arith, nat_tests)) (λ e. k)

-- the snippets so far, in the prefix with its mark
sounds_then : (n : ℕ) (kept mark : List ℕ) (ss : List Snippet) → All (EndsBefore (length (prefix_of n kept))) ss → sounds_in (prefix_of n kept ++ mark) ss ≡ sounds_in kept ss
sounds_then n kept mark ss h =
    let r = prefix_rest n kept in
    sounds_before (prefix_of n kept) mark ss h ∙ sym (sounds_before (prefix_of n kept) r.0 ss h) ∙ ap (λ k. sounds_in k ss) r.1

comes : (b : Bool) (f x : Option ItemKind) → is_some (cond (b && not (is_some f)) x f) ≡ (is_some f || (b && is_some x))
comes b f x = grind arith

-- the mark that ends a snippet
module _ (before : Preceding) (g : Gathered) (h : IsPreceded before g) (line count mark : ℕ) (some : 0 < length (encode_utf8 mark)) where
  abbrev o : OpenSyllable
  o = g.builder

  abbrev ended : List ℕ
  ended = prefix_of (o.from + count) o.kept

  abbrev whole : List ℕ
  whole = ended ++ encode_utf8 mark

  abbrev last : Snippet
  last = snippet_from o line ended

  long : o.from ≤ length ended
  long = prefix_long (o.from + count) o.from o.kept (omega arith) h.from

  more : length ended < length whole
  more = let l = length-append ended (encode_utf8 mark) in omega (arith, l, some)

  earlier : sounds_in whole o.snippets ≡ sounds_in o.kept o.snippets
  earlier = sounds_then (o.from + count) o.kept (encode_utf8 mark) o.snippets (wider o.from (length ended) o.snippets long h.snippets)

  sounds_more : sounds_in whole (o.snippets ++ last ∷ []) ≡ (sounds_in o.kept o.snippets || (sounds_on whole last || false))
  sounds_more = list_any-append (sounds_on whole) o.snippets (last ∷ []) ∙ ap (λ b. b || (sounds_on whole last || false)) earlier

  preceded_snippet : IsPreceded before (with_snippet g line count mark)
  preceded_snippet = record {
    follows = h.follows;
    total = h.total;
    sounded =
        comes (line == 0) g.first_kind (first_note_or_clef (items_of (text_at last.span whole)))
        ∙ ap (λ b. b || sounds_on whole last) h.sounded
        ∙ rw (sounds_more, or-false) (or_assoc (with_each before g.made).sounded (sounds_in o.kept o.snippets) (sounds_on whole last));
    snippets = All-push (EndsBefore (length whole)) o.snippets last (wider o.from (length whole) o.snippets (omega (arith, long, more)) h.snippets) more;
    from = omega arith;
  }

-- ---- a syllable more

pub each_then : (p : Preceding) (ms : List UnplacedSyllable) (m : UnplacedSyllable) → with_each p (ms ++ m ∷ []) ≡ with_one (with_each p ms) m
each_then p [] m = refl
each_then p (s ∷ ms) m = each_then (with_one p s) ms m

-- none stands before the first one
pub not_some : (n : ℕ) → not (nat_lt 0 n) ≡ (n == 0)
not_some n = grind (arith, nat_tests)

preceded_made : (before : Preceding) (g : Gathered) → IsPreceded before g → IsPreceded before (with_made g (made_from g.builder g.eu g.nlba))
preceded_made before g h =
    let m = made_from g.builder g.eu g.nlba in
    let p = with_each before g.made in
    let e = each_then before g.made m in
    record {
      follows = rw e (grind (arith, nat_tests));
      total = rw (e, h.total, h.follows, not_some) refl;
      sounded = rw e (h.sounded ∙ sym (or-false (p.sounded || sounds m)));
      snippets = All-nil (EndsBefore 0);
      from = omega arith;
    }

-- ---- an event more

preceded_kept : (before : Preceding) (g : Gathered) (more : List ℕ) → IsPreceded before g → IsPreceded before (record g { builder = record g.builder { kept = g.builder.kept ++ more } })
preceded_kept before g more h = grind (arith, length-append, sounds_before, wider)

preceded_text : (before : Preceding) (g : Gathered) → IsPreceded before g → IsPreceded before (record g { builder = past_text g.builder })
preceded_text before g h =
    let k = preceded_kept before g (encode_utf8 40) h in
    let n = length (g.builder.kept ++ encode_utf8 40) in
    let from = k.from in
    record {
      follows = k.follows;
      total = k.total;
      sounded = k.sounded;
      snippets = wider g.builder.from n g.builder.snippets from h.snippets;
      from = omega arith;
    }

bar : 0 < length (encode_utf8 124)
unfolding lib.Utf8.encode
bar = omega arith

closing : 0 < length (encode_utf8 41)
unfolding lib.Utf8.encode
closing = omega arith

preceded_with : (before : Preceding) (g : Gathered) (t : BodyEvent) → IsPreceded before g → IsPreceded before (with_event g t)
preceded_with before g (event.Text (text.Kept c)) h = preceded_kept before g (encode_utf8 c.c) h
preceded_with before g (event.Text (text.Part part.WordStart)) h = record { follows = h.follows; total = h.total; sounded = h.sounded; snippets = h.snippets; from = h.from }
preceded_with before g (event.Text (text.Ended text_end.Notes)) h = preceded_text before g h
preceded_with before g (event.Notes line (note.Kept c)) h = preceded_kept before g (encode_utf8 c.c) h
preceded_with before g (event.Notes line (note.Ended note_end.Next n)) h = preceded_snippet before g h line n 124 bar
preceded_with before g (event.Notes line (note.Ended note_end.Close n)) h = preceded_made before (with_snippet g line n 41) (preceded_snippet before g h line n 41 closing)
preceded_with before g _ h = record { follows = h.follows; total = h.total; sounded = h.sounded; snippets = h.snippets; from = h.from }

pub preceded_all : (before : Preceding) (g : Gathered) (now : List BodyEvent) → IsPreceded before g → IsPreceded before (with_all g now)
preceded_all before g [] h = h
preceded_all before g (t ∷ now) h = preceded_all before (with_event g t) now (preceded_with before g t h)

-- ---- after a point at which at most one syllable has become whole

-- one syllable more was made last, and nothing is read of the next one
pub record Closed (g h : Gathered) : Type 0 where
  pub m : UnplacedSyllable
  pub made : h.made ≡ g.made ++ m ∷ []
  pub eu : m.eu ≡ h.eu
  pub nlba : m.nlba ≡ h.nlba
  pub builder : h.builder ≡ nothing_open

closed_by : (g : Gathered) (t : BodyEvent) → ((with_event g t).made ≡ g.made) ⊎ ((closes t ≡ true) × Closed g (with_event g t))
closed_by g (event.Text (text.Part part.WordStart)) = inl refl
closed_by g (event.Text (text.Ended text_end.Notes)) = inl refl
closed_by g (event.Notes line (note.Ended note_end.Close n)) =
    let u = with_snippet g line n 41 in
    inr (refl, record { m = made_from u.builder u.eu u.nlba; made = refl; eu = refl; nlba = refl; builder = refl })
closed_by g _ = inl refl

pub same_or_closed : (g : Gathered) (now : List BodyEvent) → ClosesLast now → ((with_all g now).made ≡ g.made) ⊎ Closed g (with_all g now)
same_or_closed g [] c = inl refl
same_or_closed g (t ∷ now) c = by (closed_by g t) (same_or_closed (with_event g t) now c.1)
  where
    by : {k : Gathered} → (k.made ≡ g.made) ⊎ ((closes t ≡ true) × Closed g k) → ((with_all k now).made ≡ k.made) ⊎ Closed k (with_all k now) → ((with_all k now).made ≡ g.made) ⊎ Closed g (with_all k now)
    by (inl e) (inl same) = inl (same ∙ e)
    by (inl e) (inr d) = inr (record { m = d.m; made = d.made ∙ ap (λ ms. ms ++ d.m ∷ []) e; eu = d.eu; nlba = d.nlba; builder = d.builder })
    by {k} (inr e) later = inr (subst (λ (es : List BodyEvent). Closed g (with_all k es)) (sym (c.0 e.0)) e.1)

-- what is after it then
after_is : (before : Preceding) (h : Gathered) (ms : List UnplacedSyllable) (m : UnplacedSyllable) → IsPreceded before h → h.made ≡ ms ++ m ∷ [] → m.eu ≡ h.eu → m.nlba ≡ h.nlba → h.builder ≡ nothing_open
    → after_gathered (with_each before ms).syllables h ≡ with_each before h.made
after_is before h ms m p made eu nlba builder = grind (arith, each_then, or-false)

-- What stands before and after the held syllable then reports of what was gathered, by whether the
-- one held before is given.
pub record Turns (b : Contexts) (h : Gathered) (is_preceded whole gave : Bool) : Type 0 where
  pub preceded : IsPreceded (before_past whole gave b) (with_held h)
  pub after : (past_point whole gave b h).after ≡ with_each (before_past whole gave b) (with_held h).made
  pub given : before_past whole gave b ≡ with_placed b.before (take (length h.made - 1) (placed_after is_preceded h.made))

-- a syllable less is before those that are not given
given_one : (before : Preceding) (h : Gathered) (s m : UnplacedSyllable) → IsPreceded before (record h { made = s ∷ m ∷ [] }) → IsPreceded (with_one before s) (record h { made = m ∷ [] })
given_one before h s m p = record { follows = p.follows; total = p.total; sounded = p.sounded; snippets = p.snippets; from = p.from }

module _ (b : Contexts) (old : Gathered) (now : List BodyEvent) (preceded : IsPreceded b.before old) (is : b.after ≡ with_each b.before old.made) (last : ClosesLast now) (few : length old.made ≤ 1) (is_preceded : Bool) where
  abbrev h : Gathered
  h = with_all old now

  p : IsPreceded b.before h
  p = preceded_all b.before old now preceded

  made_as : (ms : List UnplacedSyllable) → h.made ≡ ms → IsPreceded b.before (record h { made = ms })
  made_as ms e = subst (λ (k : List UnplacedSyllable). IsPreceded b.before (record h { made = k })) e p

  -- the first one has become whole, or one after another
  closed : (ms : List UnplacedSyllable) → old.made ≡ ms → (c : Closed old h) → Turns b h is_preceded true (nat_lt 1 (length h.made))
  closed [] e c =
      let made : h.made ≡ c.m ∷ [] = c.made ∙ ap (λ ms. ms ++ c.m ∷ []) e in
      rw made (record {
        preceded = rw made (made_as (c.m ∷ []) made);
        after = after_is b.before h [] c.m p made c.eu c.nlba c.builder ∙ rw made refl;
        given = rw made refl;
      })
  closed (s ∷ []) e c =
      let made : h.made ≡ s ∷ c.m ∷ [] = c.made ∙ ap (λ ms. ms ++ c.m ∷ []) e in
      let later : b.after ≡ with_one b.before s = is ∙ ap (with_each b.before) e in
      rw made (record {
        preceded = rw (made, later) (given_one b.before h s c.m (made_as (s ∷ c.m ∷ []) made));
        after = rw later (after_is b.before h (s ∷ []) c.m p made c.eu c.nlba c.builder ∙ rw made refl);
        given = rw made later;
      })
  closed (s ∷ t ∷ rest) e c = absurd (let l = ap length e in omega (arith, l, few))

  pub turned : (whole gave : Bool) → whole ≡ nat_lt (length old.made) (length h.made) → gave ≡ nat_lt 1 (length h.made) → Turns b h is_preceded whole gave
  turned whole gave w g = by (same_or_closed old now last) whole w
    where
      by : (h.made ≡ old.made) ⊎ Closed old h → (whole : Bool) → whole ≡ nat_lt (length old.made) (length h.made) → Turns b h is_preceded whole gave
      by (inl same) true w = absurd (let l = ap length same in grind (arith, nat_tests, w, l))
      by (inl same) false w =
          let none : length h.made - 1 ≡ 0 = let l = ap length same in omega (arith, few, l) in
          record { preceded = rw none p; after = rw none (is ∙ ap (with_each b.before) (sym same)); given = rw none refl }
      by (inr c) true w = subst (Turns b h is_preceded true) (sym g) (closed old.made refl c)
      by (inr c) false w = absurd (let l = ap length c.made in let k = length-append old.made (c.m ∷ []) in grind (arith, nat_tests, w, l, k))

-- in the body an input goes past the syllables that are given at it
pub past_in_body : (part : ScorePart) (x : HeadEvent) (fs : List Finding) (ss : List PlacedSyllable) (p q : Preceding) → part ≡ score_part.Body → q ≡ with_placed p ss → q ≡ preceding_past part x (outputs_of fs ss) p
past_in_body part x fs ss p q body e = subst (λ (k : ScorePart). q ≡ preceding_past k x (outputs_of fs ss) p) (sym body) (e ∙ ap (with_placed p) (sym (ap syllables_in (sym (append-nil (outputs_of fs ss))) ∙ given_syllables fs ss [] refl)))

-- ---- whether one was given

pub each_some : (p : Preceding) (ms : List UnplacedSyllable) → 1 ≤ p.syllables → 1 ≤ (with_each p ms).syllables
each_some p [] h = h
each_some p (m ∷ ms) h = each_some (with_one p m) ms (omega (arith, h))

-- one was given if two were made
pub given_some : (is_preceded : Bool) (p : Preceding) (s m : UnplacedSyllable) (ms : List UnplacedSyllable) → 1 ≤ (with_placed p (take (length (s ∷ m ∷ ms) - 1) (placed_after is_preceded (s ∷ m ∷ ms)))).syllables
given_some is_preceded p s m ms =
    let count : length (s ∷ m ∷ ms) - 1 ≡ suc (length ms) = omega arith in
    rw count (each_some (with_one p s) (map (λ (s : PlacedSyllable). s.made) (take (length ms) (placed_after true (m ∷ ms)))) (omega arith))

-- one was, exactly if one stands before the held syllable
pub lent_past : (before passed : Preceding) (is_preceded : Bool) (made : List UnplacedSyllable) → is_preceded ≡ nat_lt 0 before.syllables → passed ≡ with_placed before (take (length made - 1) (placed_after is_preceded made))
    → (is_preceded || nat_lt 1 (length made)) ≡ nat_lt 0 passed.syllables
lent_past before passed is_preceded [] l p = rw p (or-false is_preceded ∙ l)
lent_past before passed is_preceded (m ∷ []) l p = rw p (or-false is_preceded ∙ l)
lent_past before passed is_preceded (m ∷ n ∷ made) l p =
    let some = given_some is_preceded before m n made in
    let more : nat_lt 1 (length (m ∷ n ∷ made)) ≡ true = grind (arith, nat_tests) in
    rw (more, p) (or-true is_preceded ∙ sym (grind (arith, nat_tests, some)))
