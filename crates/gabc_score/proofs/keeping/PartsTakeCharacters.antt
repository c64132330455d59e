-- A part of a body that keeps parts of a kept text takes a character.
use Rattle.std.proofs.Common.{◌≡◌, ◌≤◌, ℕ, zero, suc, nat_lt, Bool, true, false, if◌then◌else◌, List, [], ◌∷◌, Option, Some, None, is_some, refl, sym, ap, ◌∙◌, arith}
use Rattle.std.proofs.lemmas.Bool.{false≢true, true≢false, false_from_ne_true}
use Rattle.std.specs.List.{list_any}
use Rattle.gabc_places.proofs.NumbersByTests.{suc_eqb}
use Rattle.gabc_places.specs.declared.place.Char.{Char}
use Rattle.gabc_places.specs.declared.place.Place.{Place}
use Rattle.gabc_text.specs.Events.{codes_of}
use Rattle.gabc_text.specs.TextStage.{fresh_stage}
use Rattle.gabc_text.specs.declared.stage.TextStage.{TextStage}
use Rattle.gabc_text.specs.declared.text_event.TextEvent.{TextEvent}
use Rattle.gabc_text.specs.declared.text_event.TextEvent.TheVariants as text_out
use Rattle.gabc_text.specs.declared.text_event.TextEnd.TheVariants as text_end
use Rattle.gabc_text.specs.witness.Keeps as text
use Rattle.gabc_notes.specs.Events as note_events
use Rattle.gabc_notes.specs.declared.stage.NoteEnd.TheVariants as note_end
use Rattle.gabc_notes.specs.declared.stage.NoteEvent.{NoteEvent}
use Rattle.gabc_notes.specs.declared.stage.NoteEvent.TheVariants as note
use Rattle.gabc_notes.specs.declared.stage.NoteStage.{NoteStage}
use Rattle.gabc_notes.specs.SnippetRead.{kept_of}
use Rattle.gabc_notes.specs.StageReports as note_tells
use Rattle.gabc_notes.specs.witness.Keeps as notes
use Rattle.gabc_nabc.specs.Events as nabc_events
use Rattle.gabc_nabc.specs.declared.stage.NabcStage.{NabcStage}
use Rattle.gabc_nabc.specs.witness.Keeps as nabc
use Rattle.gabc_score.specs.declared.body_stage.BodyPart.{BodyPart}
use Rattle.gabc_score.specs.declared.body_stage.BodyPart.TheVariants as part
use Rattle.gabc_score.specs.declared.body_tells.Openers.{Openers}
use Rattle.gabc_body.specs.declared.events.BodyEvent.{BodyEvent}
use Rattle.gabc_body.specs.declared.events.BodyEvent.TheVariants as event
use Rattle.gabc_body.specs.Events.{InNotes, after_mark, events_from, is_close, is_next, is_text_end, next_line, note_event}
use Rattle.gabc_score.specs.witness.EmittedAgain.{opens}
use Rattle.gabc_score.specs.ScoreReports.{is_in_comment, is_in_front, openers_of}
use Rattle.gabc_score.specs.machine.PartKeeps.{KeptParts, in_text, in_notes, PartKeeps, PartKeepsOn, PartStandsOn}
use Rattle.gabc_body.specs.witness.TextEvents.{text_events}
use Rattle.gabc_score.specs.machine.PartOpens.{PartOpensOn}
use Rattle.gabc_score.specs.machine.ReadAgain.{ReadsAgain}
use Rattle.gabc_score.specs.witness.BodyStage.{part_with, texts_by_stage}
use Rattle.gabc_text.proofs.resuming.EndedAndFreshStagesHaveNothingOpen.{comment_fresh}
use Rattle.gabc_score.specs.machine.PartSteps.{Begins, PartSteps, SnippetSteps}
use Rattle.gabc_score.specs.machine.PartSteps as step
use Rattle.gabc_score.specs.machine.StageLaws.{Steps}
use Rattle.gabc_score.proofs.building.EventsOfSnippets.{part_emits}
use Rattle.gabc_score.proofs.building.PartsKeepOn.{keeps_on}
use Rattle.gabc_score.proofs.building.PartsOfKeptText.{of_notes}
use Rattle.gabc_score.proofs.building.PartsOpenOn.{opens_on}
use Rattle.gabc_score.proofs.building.PartsTrackPlaces.{stands_on}
use Rattle.gabc_score.proofs.building.SnippetsTakeCharacters.{stays_in_notes}
use Rattle.gabc_score.proofs.keeping.PartsKeepOne.{KeepsOne, close_one, goes_one, next_one, text_one, text_end_one}
use Rattle.gabc_score.proofs.resuming.PartsReadAgain.{reads_again}
use Rattle.gabc_score.proofs.score_events.FrontIsFirst.{leaves_front}
use Rattle.gabc_body.proofs.stopped_scores.ClosedWithin.{close_count, count_one}

-- ---- the `(` and the `)` among events

text_opens : (es : List TextEvent) → list_any opens (text_events es) ≡ list_any is_text_end es
text_opens [] = refl
text_opens (text_out.Ended text_end.Notes ∷ es) = refl
text_opens (_ ∷ es) = text_opens es

module _ (line : ℕ) (opened : Place) where
  none_opens : (es : List NoteEvent) → list_any opens (of_notes line opened es) ≡ false
  none_opens [] = refl
  none_opens (note.Kept x ∷ es) = none_opens es
  none_opens (_ ∷ es) = none_opens es

  one_closes : (es : List NoteEvent) → list_any is_close es ≡ true → 1 ≤ close_count (of_notes line opened es)
  one_closes [] e = absurd (false≢true e)
  one_closes (note.Ended note_end.Close n ∷ es) e = let one = count_one (event.Notes line (note.Ended note_end.Close n)) (of_notes line opened es) in omega (arith, one)
  one_closes (o ∷ es) e = let one = count_one (note_event line opened o) (of_notes line opened es) in let more = one_closes es e in omega (arith, one, more)

-- ---- what a part does with a character

-- The part that stands after it, and what is emitted with it.
pub record TakesOne (lines macros : ℕ) (before : BodyPart) (x : Char) : Type 0 where
  pub now : List BodyEvent
  pub after : BodyPart
  pub emits : (xs : List Char) → events_from texts_by_stage lines macros (part_with before (x ∷ xs)) (x ∷ xs) ≡ now ∷ events_from texts_by_stage lines macros (part_with after xs) xs
  pub again : ReadsAgain lines macros x before after now
  pub keeps : PartKeepsOn lines macros before after now
  pub opens_on : PartOpensOn lines macros x before after
  pub stands : PartStandsOn lines macros x before after
  pub front : is_in_front after ≡ false
  pub keeps_one : KeepsOne lines macros x before after now
  pub notes_are : close_count now ≡ 0 → (openers_of after).notes ≡ (if list_any opens now then Some x.place else (openers_of before).notes)
  pub opens_once : is_some (openers_of before).notes ≡ true → list_any opens now ≡ false

-- ---- by its step

module _ {lines macros : ℕ} {x : Char} where
  notes_are : {before after : BodyPart} {now : List BodyEvent} → PartSteps lines macros x before now after → close_count now ≡ 0 → (openers_of after).notes ≡ (if list_any opens now then Some x.place else (openers_of before).notes)
  notes_are (step.in_front h) none = refl
  notes_are (step.leaves_front h s) none = notes_are s none
  notes_are (step.text_goes {es = es} h e) none = ap (λ (b : Bool). if b then Some x.place else None) (sym (text_opens es ∙ e))
  notes_are (step.text_ends {es = es} h e b) none = ap (λ (o : Openers). o.notes) b.tells.0 ∙ ap (λ (b : Bool). if b then Some x.place else None) (sym (text_opens es ∙ e))
  notes_are (step.snippet_goes {line} {opened} {es = es} s n c) none = rw (none_opens line opened es) ((stays_in_notes s).is ∙ sym (stays_in_notes s).was)
  notes_are (step.snippet_next {line} {opened} {es = es} s n b) none = rw (none_opens line opened es) (ap (λ (o : Openers). o.notes) b.tells.0 ∙ sym (stays_in_notes s).was)
  notes_are (step.snippet_closes {line} {opened} {es = es} s n c) none = let one = one_closes line opened es c in absurd (omega (arith, one, none))

  opens_once : {before after : BodyPart} {now : List BodyEvent} → PartSteps lines macros x before now after → is_some (openers_of before).notes ≡ true → list_any opens now ≡ false
  opens_once (step.in_front h) some = refl
  opens_once (step.leaves_front h s) some = absurd (false≢true some)
  opens_once (step.text_goes h e) some = absurd (false≢true some)
  opens_once (step.text_ends h e b) some = absurd (false≢true some)
  opens_once (step.snippet_goes {line} {opened} {es = es} s n c) some = none_opens line opened es
  opens_once (step.snippet_next {line} {opened} {es = es} s n b) some = none_opens line opened es
  opens_once (step.snippet_closes {line} {opened} {es = es} s n c) some = none_opens line opened es

  taken : {before after : BodyPart} {now : List BodyEvent} → PartSteps lines macros x before now after → is_in_front before ≡ false → KeepsOne lines macros x before after now → TakesOne lines macros before x
  taken {before} {after} {now} s front one = record {
    now = now;
    after = after;
    emits = part_emits s;
    again = reads_again s;
    keeps = keeps_on s;
    opens_on = opens_on s;
    stands = stands_on s;
    front = false_from_ne_true (is_in_front after) (λ in_front. true≢false (sym (leaves_front s in_front).0 ∙ front));
    keeps_one = one;
    notes_are = notes_are s;
    opens_once = opens_once s;
  }

-- a snippet of that line, of which nothing was read
record Snippet (lines macros line : ℕ) (opened : Place) : Type 0 where
  snippet : BodyPart
  begins : Begins lines macros line opened snippet

module _ (laws : Steps) (lines macros : ℕ) where
  snippet_at : (line : ℕ) (opened : Place) → Snippet lines macros line opened
  snippet_at zero opened =
      let b = laws.gabc_fresh (nat_lt 0 lines) macros in
      record {
        snippet = part.Notes opened b.stage;
        begins = record {
          reads = λ xs. ap (InNotes 0 opened) (b.emits xs);
          keeps = λ t earlier h. (h, b.keeps);
          tells = (ap (λ (o : Option Place). record { notes = Some opened; inner = o }) b.opens_nothing, b.outside);
        };
      }
  snippet_at (suc line) opened =
      let b = laws.nabc_fresh in
      record {
        snippet = part.Nabc (suc line) opened b.stage;
        begins = record {
          reads = λ xs. ap (InNotes (suc line) opened) (b.emits xs ∙ ap (λ (z : Bool). if z then note_events.note_events (nat_lt 0 lines) macros xs else nabc_events.nabc_events xs) (sym (suc_eqb line)));
          keeps = λ t earlier h. (h, ((λ e. omega arith), b.keeps));
          tells = (refl, b.outside);
        };
      }

  text_takes : (s : TextStage) (x : Char) (t : text.Takes s x.c) (b : Bool) → list_any is_text_end t.events ≡ b → TakesOne lines macros (part.Text s) x
  text_takes s x t true e =
      let n = snippet_at 0 x.place in
      taken (step.text_ends (record { emits = λ xs. t.emits (codes_of xs); keeps = t.keeps }) e n.begins) refl (text_end_one lines macros s x t e n.snippet n.begins.tells.1)
  text_takes s x t false e = taken (step.text_goes (record { emits = λ xs. t.emits (codes_of xs); keeps = t.keeps }) e) refl (text_one lines macros s x t e)

  snippet_takes : {x : Char} {line : ℕ} {opened : Place} {before same : BodyPart} {es : List NoteEvent} → SnippetSteps x line opened before es same → is_in_front before ≡ false
      → ((p : KeptParts) → PartKeeps lines macros before p → x.c ≡ 37 → kept_of es ≡ [] → is_in_comment same ≡ true) → (next close : Bool) → list_any is_next es ≡ next → list_any is_close es ≡ close → TakesOne lines macros before x
  snippet_takes {line = line} {opened} s front percent true close e f =
      let n = snippet_at (next_line lines line) opened in
      taken (step.snippet_next s e n.begins) front (next_one lines macros s n.snippet n.begins.tells.1 e)
  snippet_takes {x} s front percent false true e f =
      taken (step.snippet_closes s e f) front (close_one lines macros s (part.Text (fresh_stage (after_mark x.place))) (comment_fresh (after_mark x.place)) f)
  snippet_takes s front percent false false e f = taken (step.snippet_goes s e f) front (goes_one lines macros s e f percent)

  gabc_percent : (opened : Place) (s : NoteStage) (x : Char) (t : notes.Takes s x) (p : KeptParts) → PartKeeps lines macros (part.Notes opened s) p → x.c ≡ 37 → kept_of t.events ≡ [] → note_tells.comment_of t.after ≡ true
  gabc_percent opened s x t p keeps is none = grind arith

  nabc_percent : (line : ℕ) (opened : Place) (s : NabcStage) (x : Char) (t : nabc.Takes s x) (p : KeptParts) → PartKeeps lines macros (part.Nabc line opened s) p → x.c ≡ 37 → kept_of t.events ≡ [] → nabc.comment_of t.after ≡ true
  nabc_percent line opened s x t p keeps is none = grind arith

  pub takes_one : (b : BodyPart) (p : KeptParts) → PartKeeps lines macros b p → is_in_front b ≡ false → (x : Char) → TakesOne lines macros b x
  takes_one part.Comment p keeps front x = absurd (false≢true (sym front))
  takes_one (part.Text s) (in_text k) keeps front x = let t = laws.text_takes s x.c keeps.goes_on in text_takes s x t (list_any is_text_end t.events) refl
  takes_one (part.Text s) (in_notes u earlier k) keeps front x = absurd keeps
  takes_one (part.Notes opened s) (in_notes u earlier k) keeps front x =
      let t = laws.gabc_takes s x keeps.1.goes_on in
      snippet_takes (step.in_gabc {opened = opened} (record { emits = t.emits; keeps = t.keeps })) refl (gabc_percent opened s x t) (list_any is_next t.events) (list_any is_close t.events) refl refl
  takes_one (part.Nabc line opened s) (in_notes u earlier k) keeps front x =
      let t = laws.nabc_takes s x in
      snippet_takes (step.in_nabc {line = line} {opened = opened} (record { emits = t.emits; keeps = t.keeps })) refl (nabc_percent line opened s x t) (list_any is_next t.events) (list_any is_close t.events) refl refl
  takes_one _ (in_text k) keeps front x = absurd keeps
