-- What is counted of a syllable goes on with the events of a part.
use Rattle.std.proofs.Common.{◌≡◌, ℕ, ◌+◌, ◌*◌, ◌≤◌, ◌||◌, true, false, List, [], ◌∷◌, ◌++◌, map, length, encode_utf8, refl, sym, ap, subst, ◌∙◌, arith, length-append, length-take}
use Rattle.std.specs.List.{list_any}
use Rattle.std.proofs.lemmas.Str.{length-encode, len_utf8_bounds}
use Rattle.gabc_places.specs.declared.place.Place.{Place}
use Rattle.gabc_text.specs.declared.stage.TextStage.{TextStage}
use Rattle.gabc_text.specs.declared.text_event.TextEvent.{TextEvent}
use Rattle.gabc_text.specs.declared.text_event.TextEvent.TheVariants as text
use Rattle.gabc_text.specs.BuiltText.{kept_in}
use Rattle.gabc_text.specs.PiecesOwed.{pieces_in, PiecesArePaid}
use Rattle.gabc_notes.specs.declared.stage.NoteEnd.TheVariants as note_end
use Rattle.gabc_notes.specs.declared.stage.NoteEvent.{NoteEvent}
use Rattle.gabc_notes.specs.declared.stage.NoteEvent.TheVariants as note
use Rattle.gabc_body.specs.declared.events.BodyEvent.{BodyEvent}
use Rattle.gabc_body.specs.declared.events.BodyEvent.TheVariants as event
use Rattle.gabc_score.specs.declared.body_stage.BodyPart.{BodyPart}
use Rattle.gabc_score.specs.declared.body_stage.BodyPart.TheVariants as part
use Rattle.gabc_body.specs.Events.{after_mark, is_close, note_event}
use Rattle.gabc_body.specs.Syllable.{prefix_of}
use Rattle.gabc_body.specs.witness.BodyBuilder.{with_all}
use Rattle.gabc_body.specs.witness.Gatherer.{Gathered, with_text, with_event, with_snippet}
use Rattle.gabc_score.specs.machine.PartCounts.{CountsInNotes, CountsHold, PartGoesOn}
use Rattle.gabc_score.specs.machine.PartPushes.{EndsLast}
use Rattle.gabc_score.specs.machine.Slot.{FitsEvent, FitsText, FitEach}
use Rattle.gabc_body.specs.witness.SyllableBuilder.{OpenSyllable, nothing_open}
use Rattle.gabc_places.specs.declared.place.Char.{Char}
use Rattle.gabc_text.specs.TextStage.{fresh_stage}
use Rattle.gabc_score.specs.machine.PartSteps.{IsBounded, PartSteps, SnippetSteps}
use Rattle.gabc_score.specs.machine.PartSteps as step

-- a character has one to four bytes
bytes_of : (c : ℕ) → (1 ≤ length (encode_utf8 c)) × (length (encode_utf8 c) ≤ 4)
bytes_of c = rw (length-encode c) (len_utf8_bounds c)

kept_more : (kept : List ℕ) (c : ℕ) → (length kept + 1 ≤ length (kept ++ encode_utf8 c)) × (length (kept ++ encode_utf8 c) ≤ length kept + 4)
kept_more kept c = let b = bytes_of c in let l = length-append kept (encode_utf8 c) in (omega arith, omega arith)

-- ---- texts

abbrev of_texts : List TextEvent → List BodyEvent
of_texts es = map (λ (o : TextEvent). event.Text o) es

-- what some events of a text add
pub record TextGrows (o p : OpenSyllable) (pieces kept : ℕ) : Type 0 where
  pub pieces_are : length p.view.pieces ≡ length o.view.pieces + pieces
  pub kept_grows : length o.kept + kept ≤ length p.kept
  pub from_stays : o.from ≤ length o.kept → p.from ≤ length p.kept
  pub snippets_stay : p.snippets ≡ o.snippets

unmoved : (o p : OpenSyllable) (n : ℕ) → p.kept ≡ o.kept → p.from ≡ o.from → p.snippets ≡ o.snippets → length p.view.pieces ≡ length o.view.pieces + n → TextGrows o p n 0
unmoved o p n k f s e = record { pieces_are = e; kept_grows = rw k (omega arith); from_stays = λ h. rw (k, f) h; snippets_stay = s }

grows_one : (g : Gathered) (e : TextEvent) → TextGrows g.builder (with_text g e).builder (pieces_in (e ∷ [])) (length (kept_in (e ∷ [])))
grows_one g e = grind (arith, kept_more, unmoved, length-append)

grows_then : (o p q : OpenSyllable) (a b c d : ℕ) → TextGrows o p a b → TextGrows p q c d → TextGrows o q (a + c) (b + d)
grows_then o p q a b c d h k = grind arith

pieces_cons : (e : TextEvent) (es : List TextEvent) → pieces_in (e ∷ es) ≡ pieces_in (e ∷ []) + pieces_in es
pieces_cons e es = grind arith

kept_cons : (e : TextEvent) (es : List TextEvent) → length (kept_in (e ∷ es)) ≡ length (kept_in (e ∷ [])) + length (kept_in es)
kept_cons e es = grind arith

grows_all : (g : Gathered) (es : List TextEvent) → TextGrows g.builder (with_all g (of_texts es)).builder (pieces_in es) (length (kept_in es))
grows_all g [] = unmoved _ _ 0 refl refl refl (omega arith)
grows_all g (e ∷ es) = rw (pieces_cons e es, kept_cons e es) (grows_then _ _ _ _ _ _ _ (grows_one g e) (grows_all (with_text g e) es))

-- what one event adds to the bytes and to the pieces
record TextAdds (g h : Gathered) : Type 0 where
  limit : h.limit ≡ g.limit
  kept : length h.builder.kept ≤ length g.builder.kept + 4
  pieces : length h.builder.view.pieces ≤ length g.builder.view.pieces + 1

adds_one : (g : Gathered) (e : TextEvent) → TextAdds g (with_text g e)
adds_one g e = grind (arith, kept_more, length-append)

texts_fit : (g : Gathered) (es : List TextEvent) → length g.builder.kept + 4 * length es ≤ g.limit + 32 → length g.builder.view.pieces + length es ≤ g.limit + 32 → FitEach g (of_texts es)
texts_fit g [] k p = tt
texts_fit g (e ∷ es) k p =
    let a = adds_one g e in
    (one_fits e, texts_fit (with_text g e) es (omega arith) (omega arith))
  where
    one_fits : (e : TextEvent) → FitsText g.limit g.builder e
    one_fits (text.Kept c) = omega (arith, k)
    one_fits (text.Part q) = omega (arith, p)
    one_fits (text.Found f) = tt
    one_fits (text.Ended h) = omega (arith, k)

pub text_fits : (s : TextStage) (es : List TextEvent) → length es ≤ 8 → (g : Gathered) → CountsHold (part.Text s) g.builder → length g.builder.kept ≤ g.limit → FitEach g (of_texts es)
text_fits s es few g h k = texts_fit g es (omega arith) (omega arith)

module _ (s t : TextStage) (es : List TextEvent) (few : length es ≤ 8) (paid : PiecesArePaid s es t) where
  pub text_goes : PartGoesOn (part.Text s) (part.Text t) (of_texts es)
  text_goes = record {
    counts = λ g h. let r = grows_all g es in (omega arith, (r.from_stays h.1.0, r.snippets_stay ∙ h.1.1));
    fit = text_fits s es few;
  }

  pub text_ends : (after : BodyPart) → ((o : OpenSyllable) → CountsInNotes o → CountsHold after o) → PartGoesOn (part.Text s) after (of_texts es)
  text_ends after into = record {
    counts = λ g h. let r = grows_all g es in
        into (with_all g (of_texts es)).builder (let none : length (with_all g (of_texts es)).builder.snippets ≡ 0 = ap length (r.snippets_stay ∙ h.1.1) in omega (arith, none), r.from_stays h.1.0);
    fit = text_fits s es few;
  }

-- ---- snippets

-- a prefix of a kept text that ends in a seam, or the text
pub prefix_between : (from count : ℕ) (kept : List ℕ) → from ≤ length kept → (from ≤ length (prefix_of (from + count) kept)) × (length (prefix_of (from + count) kept) ≤ length kept)
prefix_between from count kept h = let l = length-take (from + count) kept in (grind (arith, h, l), grind (arith, l))

-- what one event of a snippet adds
record NoteAdds (g h : Gathered) : Type 0 where
  limit : h.limit ≡ g.limit
  kept : length h.builder.kept ≤ length g.builder.kept + 4
  snippets : length h.builder.snippets ≤ length g.builder.snippets + 1
  counts : CountsInNotes h.builder

abbrev of_note : ℕ → Place → NoteEvent → BodyEvent
of_note line opened e = note_event line opened e

snippet_adds : (g : Gathered) (line count mark : ℕ) → CountsInNotes g.builder → NoteAdds g (with_snippet g line count mark)
snippet_adds g line count mark h = grind (arith, prefix_between, kept_more, length-append)

note_adds : (line : ℕ) (opened : Place) (g : Gathered) (e : NoteEvent) → CountsInNotes g.builder → NoteAdds g (with_event g (of_note line opened e))
note_adds line opened g (note.Kept c) h = grind (arith, kept_more)
note_adds line opened g (note.Ended note_end.Next n) h = snippet_adds g line n 124 h
note_adds line opened g (note.Ended note_end.Close n) h = record { limit = refl; kept = omega arith; snippets = omega arith; counts = (omega arith, omega arith) }
note_adds line opened g _ h = record { limit = refl; kept = omega arith; snippets = omega arith; counts = h }

module _ (line : ℕ) (opened : Place) where
  abbrev of_notes : List NoteEvent → List BodyEvent
  of_notes es = map (note_event line opened) es

  notes_fit : (g : Gathered) (es : List NoteEvent) → CountsInNotes g.builder → length g.builder.kept + 4 * length es ≤ g.limit + 32 → length g.builder.snippets + length es ≤ g.limit + 32
      → FitEach g (of_notes es)
  notes_fit g [] h k s = tt
  notes_fit g (e ∷ es) h k s =
      let a = note_adds line opened g e h in
      (one_fits e, notes_fit (with_event g (of_note line opened e)) es a.counts (omega arith) (omega arith))
    where
      one_fits : (e : NoteEvent) → FitsEvent g.limit g.builder (note_event line opened e)
      one_fits (note.Kept c) = omega (arith, k)
      one_fits (note.Found f) = tt
      one_fits (note.Ended how n) = (omega (arith, k), omega (arith, s))

  notes_count : (g : Gathered) (es : List NoteEvent) → CountsInNotes g.builder → CountsInNotes (with_all g (of_notes es)).builder
  notes_count g [] h = h
  notes_count g (e ∷ es) h = notes_count (with_event g (of_note line opened e)) es (note_adds line opened g e h).counts

  -- a `)` leaves nothing open
  nothing_left : (g : Gathered) (es : List NoteEvent) → EndsLast is_close es → list_any is_close es ≡ true → (with_all g (of_notes es)).builder ≡ nothing_open
  nothing_left g [] h e = absurd (cc)
  nothing_left g (x ∷ es) h e = by x refl (λ n. nothing_left (with_event g (of_note line opened x)) es h.1 (ap (λ b. b || list_any is_close es) (sym n) ∙ e))
    where
      by : (y : NoteEvent) → x ≡ y → (is_close x ≡ false → (with_all (with_event g (of_note line opened x)) (of_notes es)).builder ≡ nothing_open)
          → (with_all (with_event g (of_note line opened x)) (of_notes es)).builder ≡ nothing_open
      by (note.Ended note_end.Close n) p later =
          ap (λ ys. (with_all (with_event g (of_note line opened x)) (of_notes ys)).builder) (h.0 (ap is_close p))
          ∙ ap (λ y. (with_event g (of_note line opened y)).builder) p
      by y p later = later (ap is_close p)

  module _ (before : BodyPart) (es : List NoteEvent) (few : length es ≤ 3) (in_notes : (o : OpenSyllable) → CountsHold before o → CountsInNotes o) where
    pub all_fit : (g : Gathered) → CountsHold before g.builder → length g.builder.kept ≤ g.limit → FitEach g (of_notes es)
    all_fit g h k = let n = in_notes g.builder h in notes_fit g es n (omega arith) (omega arith)

    pub notes_go : (after : BodyPart) → ((o : OpenSyllable) → CountsInNotes o → CountsHold after o) → PartGoesOn before after (of_notes es)
    notes_go after into = record { counts = λ g h. into (with_all g (of_notes es)).builder (notes_count g es (in_notes g.builder h)); fit = all_fit }

    pub notes_close : (after : BodyPart) → CountsHold after nothing_open → EndsLast is_close es → list_any is_close es ≡ true → PartGoesOn before after (of_notes es)
    notes_close after h o e = record { counts = λ g k. subst (CountsHold after) (sym (nothing_left g es o e)) h; fit = all_fit }

-- ---- a part takes a character

fresh_counts : (at : Place) (o : OpenSyllable) → o ≡ nothing_open → CountsHold (part.Text (fresh_stage at)) o
fresh_counts at o e = subst (CountsHold (part.Text (fresh_stage at))) (sym e) (omega arith, (omega arith, refl))

begun_counts : {lines macros line : ℕ} {opened : Place} (after : BodyPart) → step.Begins lines macros line opened after → (o : OpenSyllable) → CountsInNotes o → CountsHold after o
begun_counts after b o h = grind arith

-- in the part of a snippet the same is counted before and after
record CountsAlike (before after : BodyPart) : Type 0 where
  out : (o : OpenSyllable) → CountsHold before o → CountsInNotes o
  into : (o : OpenSyllable) → CountsInNotes o → CountsHold after o

counts_alike : {x : Char} {line : ℕ} {opened : Place} {before after : BodyPart} {es : List NoteEvent} → SnippetSteps x line opened before es after → CountsAlike before after
counts_alike h = grind arith

pub counts_go_on : {lines macros : ℕ} {x : Char} {before after : BodyPart} {now : List BodyEvent} (s : PartSteps lines macros x before now after) → IsBounded s → PartGoesOn before after now
counts_go_on (step.in_front h) k = record { counts = λ g c. c; fit = λ g c k. tt }
counts_go_on {x = x} (step.leaves_front h s) k = grind (arith, counts_go_on s k, fresh_counts)
counts_go_on (step.text_goes {s} {t} {es} h e) k = text_goes s t es k.few k.pieces
counts_go_on (step.text_ends {s} {t} {es} {after} h e b) k = text_ends s t es k.few k.pieces after (begun_counts after b)
counts_go_on (step.snippet_goes {line} {opened} {before} {after} {es} s n c) k = let l = counts_alike s in notes_go line opened before es k.few l.out after l.into
counts_go_on (step.snippet_next {line} {opened} {before} {after = after} {es} s n b) k = notes_go line opened before es k.few (counts_alike s).out after (begun_counts after b)
counts_go_on {x = x} (step.snippet_closes {line} {opened} {before} {es = es} s n c) k =
    notes_close line opened before es k.few (counts_alike s).out (part.Text (fresh_stage (after_mark x.place))) (fresh_counts (after_mark x.place) nothing_open refl) k.once c
