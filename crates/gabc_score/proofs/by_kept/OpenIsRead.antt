-- What is open in a part of the body after a text is what the reading by what is kept says.
use Rattle.std.proofs.Common.{◌≡◌, ◌==◌, ◌&&◌, ℕ, Bool, true, false, cond, List, [], ◌∷◌, ◌++◌, map, length, Option, Some, None, is_some, encode_utf8_all, reverse, refl, sym, ap, ◌∙◌, arith}
use Rattle.std.specs.Prelude.{◌≢◌, nat_lt}
use Rattle.std.specs.List.{list_any}
use Rattle.std.proofs.Math.Seq.{take-append_seam}
use Rattle.std.proofs.lemmas.Bool.{false≢true}
use Rattle.std.proofs.lemmas.List.{append_cancel_left}
use Rattle.std.proofs.lemmas.Str.{encodes-append, encodes_same}
use Rattle.gabc_places.specs.declared.code.Finding.{Finding}
use Rattle.gabc_places.specs.declared.place.Place.{Place}
use Rattle.gabc_text.specs.StageReports.{cut_place}
use Rattle.gabc_text.specs.Token.{tokens}
use Rattle.gabc_text.specs.View.{is_cut}
use Rattle.gabc_text.specs.declared.stage.TextStage.{TextStage}
use Rattle.gabc_text.specs.declared.text_event.TextEnd.{TextEnd}
use Rattle.gabc_text.specs.declared.text_event.TextEnd.TheVariants as ending
use Rattle.gabc_text.specs.declared.text_event.TextEvent.{TextEvent}
use Rattle.gabc_text.specs.declared.text_event.TextEvent.TheVariants as out
use Rattle.gabc_notes.specs.KeptNotes.{in_raw}
use Rattle.gabc_notes.specs.Events.{bytes_of}
use Rattle.gabc_notes.specs.witness.NotesByKept as notes
use Rattle.gabc_notes.specs.declared.stage.NoteEnd.{NoteEnd}
use Rattle.gabc_notes.specs.declared.stage.NoteEnd.TheVariants as note_end
use Rattle.gabc_notes.specs.declared.stage.NoteEvent.{NoteEvent}
use Rattle.gabc_notes.specs.declared.stage.NoteEvent.TheVariants as note
use Rattle.gabc_notes.specs.declared.stage.NoteStage.{NoteStage}
use Rattle.gabc_notes.proofs.by_kept.NotesViable.{raw_same}
use Rattle.gabc_nabc.specs.Events.{bytes_in}
use Rattle.gabc_nabc.specs.witness.NabcByKept as nabc
use Rattle.gabc_nabc.specs.declared.stage.NabcStage.{NabcStage}
use Rattle.gabc_body.specs.Body.{cut_of}
use Rattle.gabc_body.specs.Events.{events_at_end, first_list, innermost, note_event}
use Rattle.gabc_body.specs.Reading.{BodyRead, Part, Reading}
use Rattle.gabc_body.specs.declared.events.BodyEvent.{BodyEvent}
use Rattle.gabc_body.specs.declared.events.BodyEvent.TheVariants.{Text, Notes}
use Rattle.gabc_body.specs.witness.Gatherer.{Gathered}
use Rattle.gabc_body.specs.witness.PartsByKept.{PartRead, SnippetState, InComment, InText, InNotes, ahead}
use Rattle.gabc_body.specs.witness.TextEvents.{text_events}
use Rattle.gabc_body.specs.witness.TextsByKept.{EndsBy, SaysEnd, is_end}
use Rattle.gabc_body.proofs.by_kept.ReadingAgreesWithEvents.{Stands}
use Rattle.gabc_score.specs.KeptAgain.{is_in_notes, is_inside}
use Rattle.gabc_score.specs.ScoreReports.{is_in_front, openers_of}
use Rattle.gabc_score.specs.declared.body_stage.BodyPart.{BodyPart}
use Rattle.gabc_score.specs.declared.body_stage.BodyPart.TheVariants as part
use Rattle.gabc_score.specs.machine.PartKeeps.{KeptParts, in_text, in_notes, joined, text_before, PartKeeps}
use Rattle.gabc_score.specs.machine.StageLaws.{Ends}
use Rattle.gabc_score.specs.witness.BodyStage.{part_with}
use Rattle.gabc_score.specs.witness.EmittedAgain.{is_other}
use Rattle.gabc_score.proofs.keeping.EndsOfParts.{text_cut_of}

-- ---- two cuts of a text

-- a text is cut at as many bytes into the same parts
same_parts : (a b c d : List ℕ) → a ++ b ≡ c ++ d → length (encode_utf8_all a) ≡ length (encode_utf8_all c) → (a ≡ c) × (b ≡ d)
same_parts a b c d e l = (same, append_cancel_left a b d (e ∙ ap (λ (u : List ℕ). u ++ d) (sym same)))
  where
    bytes : encode_utf8_all a ++ encode_utf8_all b ≡ encode_utf8_all c ++ encode_utf8_all d
    bytes = sym (encodes-append a b) ∙ ap encode_utf8_all e ∙ encodes-append c d

    same : a ≡ c
    same = encodes_same a c (sym (take-append_seam (encode_utf8_all a) (encode_utf8_all b)) ∙ cc (l, bytes) ∙ take-append_seam (encode_utf8_all c) (encode_utf8_all d))

-- ---- the events of the end

-- a text ends as it says
abbrev cut_by : TextEnd → Option Place
cut_by (ending.Cut place) = Some place
cut_by how = None

cut_at_end : (front : List TextEvent) (how : TextEnd) → list_any is_end front ≡ false → cut_place (front ++ out.Ended how ∷ []) ≡ cut_by how
cut_at_end [] (ending.Cut place) e = refl
cut_at_end [] how e = grind arith
cut_at_end (out.Ended how ∷ front) last e = absurd (false≢true (sym e))
cut_at_end (o ∷ front) last e = cut_at_end front last e

-- of notes each event is one of their line
of_line : (line : ℕ) (opened : Place) (n : NoteEvent) → (m : NoteEvent) × (note_event line opened n ≡ Notes line m)
of_line line opened (note.Ended how kept) = (note.Ended (innermost opened how) kept, refl)
of_line line opened n = (n, refl)

-- the events of a text are none of notes, and those of notes are all of one line
text_is_no_note : (os : List TextEvent) (line : ℕ) (n : NoteEvent) (more : List BodyEvent) → text_events os ++ [] ≡ Notes line n ∷ more → ⊥
text_is_no_note [] line n more e = absurd (cc)
text_is_no_note (o ∷ os) line n more e = absurd (cc)

note_is_no_text : (ns : List NoteEvent) (line : ℕ) (opened : Place) (o : TextEvent) (more : List BodyEvent) → map (note_event line opened) ns ++ [] ≡ Text o ∷ more → ⊥
note_is_no_text [] line opened o more e = absurd (cc)
note_is_no_text (n ∷ ns) line opened o more e = let m = of_line line opened n in let f = m.1 in absurd (cc (f, e))

notes_of_line : (ns : List NoteEvent) (line l : ℕ) (opened : Place) (n : NoteEvent) (more : List BodyEvent) → map (note_event line opened) ns ++ [] ≡ Notes l n ∷ more → line ≡ l
notes_of_line [] line l opened n more e = absurd (cc)
notes_of_line (k ∷ ns) line l opened n more e = let m = of_line line opened k in let f = m.1 in cc (f, e)

some_first : (front : List TextEvent) (o : TextEvent) → (x : TextEvent) × ((rest : List TextEvent) × (front ++ o ∷ [] ≡ x ∷ rest))
some_first [] o = (o, ([], refl))
some_first (x ∷ front) o = (x, (front ++ o ∷ [], refl))

-- ---- what is open

-- what is open in a part is what is read
pub record IsOpenAs (b : BodyPart) (r : Reading) : Type 0 where
  pub notes : is_some (openers_of b).notes ≡ is_in_notes r.part
  pub inner : is_some (openers_of b).inner ≡ is_inside r.part r.kept

-- The end cuts a part elsewhere than at its `(` exactly if something is open inside.
abbrev pub CutsInside : BodyPart → Type 0
CutsInside b = is_other (cut_of (events_at_end (part_with b []) ++ [])) (openers_of b).notes ≡ is_some (openers_of b).inner

not_zero : (n : ℕ) → n ≢ 0 → (n == 0) ≡ false
not_zero n h = grind arith

module _ (laws : Ends) (lines macros : ℕ) (p : Place) (r : BodyRead) (g : Gathered) (fs : List Finding) where
  -- a part emits the same at the end
  abbrev EndsAlike : PartRead → BodyPart → Type 0
  EndsAlike part b = events_at_end (ahead lines macros part []) ++ [] ≡ events_at_end (part_with b []) ++ []

  -- the first event of a snippet at its end
  first_note : (line : ℕ) (paren : Place) (s : SnippetState) → (n : NoteEvent) × ((more : List BodyEvent) × (events_at_end (ahead lines macros (InNotes line paren s) []) ++ [] ≡ Notes line n ∷ more))
  first_note line paren s = by (line == 0)
    where
      one : (how : NoteEnd) (kept : ℕ) → (n : NoteEvent) × ((more : List BodyEvent) × (map (note_event line paren) (note.Ended how kept ∷ []) ++ [] ≡ Notes line n ∷ more))
      one how kept = (note.Ended (innermost paren how) kept, ([], refl))

      by : (z : Bool) → (n : NoteEvent) × ((more : List BodyEvent)
          × (map (note_event line paren) (first_list (cond z (notes.events_past (nat_lt 0 lines) macros s.kept s.inner s.comment []) (nabc.events_past s.kept s.comment []))) ++ [] ≡ Notes line n ∷ more))
      by true = one (note_end.Cut (cond (in_raw s.kept) s.inner (record { line = 0; column = 0 }))) (bytes_of s.kept)
      by false = one (note_end.Cut (record { line = 0; column = 0 })) (bytes_in s.kept)

  ends_in_text : (lists : List (List TextEvent)) → Stands (InText lists) p [] r g fs → (x : TextEvent) × ((rest : List BodyEvent) × (events_at_end (ahead lines macros (InText lists) []) ++ [] ≡ Text x ∷ rest))
  ends_in_text lists s = by (is_cut (reverse (tokens r.reading.kept))) s.reads.goes
    where
      first : (how : TextEnd) (found : List Finding) → SaysEnd r.reading.kept found how g.builder.view (first_list lists) → (x : TextEvent) × ((rest : List BodyEvent) × (text_events (first_list lists) ++ [] ≡ Text x ∷ rest))
      first how found e = let f = some_first e.front (out.Ended how) in (f.0, (text_events f.1.0 ++ [], ap (λ (os : List TextEvent). text_events os ++ []) (e.ends ∙ f.1.1)))

      by : (o : Bool) → EndsBy o p r.reading.kept r.reading.inner g.builder.view (first_list lists) → (x : TextEvent) × ((rest : List BodyEvent) × (text_events (first_list lists) ++ [] ≡ Text x ∷ rest))
      by true e = first (ending.Cut r.reading.inner) _ e
      by false e = first ending.Finished _ e

  -- a text
  text_cut : (lists : List (List TextEvent)) (o : Bool) → EndsBy o p r.reading.kept r.reading.inner g.builder.view (first_list lists) → is_other (cut_of (text_events (first_list lists) ++ [])) None ≡ o
  text_cut lists true e =
      ap (λ (k : Option Place). is_other k None) (text_cut_of (first_list lists) ∙ ap cut_place e.ends ∙ cut_at_end e.front (ending.Cut r.reading.inner) e.says.goes_on)
  text_cut lists false e =
      ap (λ (k : Option Place). is_other k None) (text_cut_of (first_list lists) ∙ ap cut_place e.ends ∙ cut_at_end e.front ending.Finished e.says.goes_on)

  text_open : (s : TextStage) → CutsInside (part.Text s) → (q : PartRead) → Stands q p [] r g fs → EndsAlike q (part.Text s) → IsOpenAs (part.Text s) r.reading
  text_open s cut InComment h e = record {
    notes = sym (ap (λ (x : Reading). is_in_notes x.part) h.reads.reading_is);
    inner = sym cut ∙ ap (λ (es : List BodyEvent). is_other (cut_of es) None) (sym e) ∙ sym (ap (λ (x : Reading). is_inside x.part x.kept) h.reads.reading_is);
  }
  text_open s cut (InText lists) h e = record {
    notes = sym (ap is_in_notes h.reads.part_is);
    inner = sym cut ∙ ap (λ (es : List BodyEvent). is_other (cut_of es) None) (sym e) ∙ text_cut lists (is_cut (reverse (tokens r.reading.kept))) h.reads.goes
        ∙ sym (ap (λ (x : Part). is_inside x r.reading.kept) h.reads.part_is);
  }
  text_open s cut (InNotes line paren st) h e = let f = first_note line paren st in absurd (text_is_no_note _ line f.0 f.1.0 (sym e ∙ f.1.1))

  -- a snippet of GABC
  notes_open : (opened : Place) (s : NoteStage) (u : List ℕ) (earlier : List (List ℕ)) (k : List ℕ) → PartKeeps lines macros (part.Notes opened s) (in_notes u earlier k)
      → g.builder.from ≡ length (encode_utf8_all (text_before (in_notes u earlier k))) → r.reading.before ++ r.reading.kept ≡ joined (in_notes u earlier k)
      → (q : PartRead) → Stands q p [] r g fs → EndsAlike q (part.Notes opened s) → IsOpenAs (part.Notes opened s) r.reading
  notes_open opened s u earlier k keeps from whole InComment h e = absurd (note_is_no_text _ 0 opened (out.Ended ending.Finished) [] (sym e))
  notes_open opened s u earlier k keeps from whole (InText lists) h e = let f = ends_in_text lists h in absurd (note_is_no_text _ 0 opened f.0 f.1.0 (sym e ∙ f.1.1))
  notes_open opened s u earlier k keeps from whole (InNotes line paren st) h e =
      let f = first_note line paren st in
      let zero : 0 ≡ line = notes_of_line _ 0 line opened f.0 f.1.0 (sym e ∙ f.1.1) in
      let bytes : length (encode_utf8_all r.reading.before) ≡ length (encode_utf8_all (text_before (in_notes u earlier k))) = sym h.reads.within.from_is ∙ from in
      let same : r.reading.kept ≡ k = (same_parts r.reading.before r.reading.kept (text_before (in_notes u earlier k)) k whole bytes).1 in
      record {
        notes = sym (ap is_in_notes h.reads.part_is);
        inner = laws.gabc_opener (nat_lt 0 lines) macros s k keeps.1 ∙ sym (raw_same k) ∙ sym (ap in_raw same)
            ∙ sym (ap (λ (x : Part). is_inside x r.reading.kept) h.reads.part_is ∙ ap (λ (n : ℕ). (n == 0) && in_raw r.reading.kept) (sym zero));
      }

  -- a snippet of NABC
  nabc_open : (l : ℕ) (opened : Place) (s : NabcStage) → l ≢ 0 → (q : PartRead) → Stands q p [] r g fs → EndsAlike q (part.Nabc l opened s) → IsOpenAs (part.Nabc l opened s) r.reading
  nabc_open l opened s some InComment h e = absurd (note_is_no_text _ l opened (out.Ended ending.Finished) [] (sym e))
  nabc_open l opened s some (InText lists) h e = let f = ends_in_text lists h in absurd (note_is_no_text _ l opened f.0 f.1.0 (sym e ∙ f.1.1))
  nabc_open l opened s some (InNotes line paren st) h e =
      let f = first_note line paren st in
      let same : l ≡ line = notes_of_line _ l line opened f.0 f.1.0 (sym e ∙ f.1.1) in
      record {
        notes = sym (ap is_in_notes h.reads.part_is);
        inner = sym (ap (λ (x : Part). is_inside x r.reading.kept) h.reads.part_is ∙ ap (λ (n : ℕ). (n == 0) && in_raw r.reading.kept) (sym same) ∙ ap (λ (z : Bool). z && in_raw r.reading.kept) (not_zero l some));
      }

  pub open_as : (b : BodyPart) (k : KeptParts) → PartKeeps lines macros b k → is_in_front b ≡ false → CutsInside b → g.builder.from ≡ length (encode_utf8_all (text_before k)) → r.reading.before ++ r.reading.kept ≡ joined k
      → (q : PartRead) → Stands q p [] r g fs → EndsAlike q b → IsOpenAs b r.reading
  open_as part.Comment k keeps front cut from whole q h e = absurd (false≢true (sym front))
  open_as (part.Text s) k keeps front cut from whole q h e = text_open s cut q h e
  open_as (part.Notes opened s) (in_notes u earlier k) keeps front cut from whole q h e = notes_open opened s u earlier k keeps from whole q h e
  open_as (part.Nabc line opened s) (in_notes u earlier k) keeps front cut from whole q h e = nabc_open line opened s keeps.1.0 q h e
  open_as _ (in_text k) keeps front cut from whole q h e = absurd keeps
