-- A kept text that is read by itself: each character is kept, and no syllable is whole.
use Rattle.std.proofs.Common.{◌≡◌, ◌+◌, ◌<◌, ◌^◌, ℕ, suc, Bool, true, false, if◌then◌else◌, List, [], ◌∷◌, ◌++◌, length, Option, Some, None, is_some, encode_utf8_all, refl, sym, ap, ◌∙◌, subst, arith, append-nil, append_assoc, length-append}
use Rattle.std.specs.Option.{option_or}
use Rattle.std.specs.List.{list_any}
use Rattle.std.proofs.lemmas.Str.{encodes-append, encodes_same}
use Rattle.gabc_places.specs.Place.{next_place, place_past, placed_characters_from, saturating_next_place}
use Rattle.gabc_places.specs.PlacesInOrder.{IsEarlier}
use Rattle.gabc_places.specs.StageLaw.{concat_of}
use Rattle.gabc_places.specs.declared.place.Char.{Char}
use Rattle.gabc_places.specs.declared.place.Place.{Place}
use Rattle.gabc_body.specs.declared.before.Spans.{Spans}
use Rattle.gabc_score.specs.declared.body_stage.BodyPart.{BodyPart}
use Rattle.gabc_body.specs.declared.events.BodyEvent.{BodyEvent}
use Rattle.gabc_body.specs.Body.{events_onto}
use Rattle.gabc_body.specs.Events.{events_from}
use Rattle.gabc_score.specs.witness.EmittedAgain.{notes_at, opens}
use Rattle.gabc_score.specs.ScoreReports.{IsAt, is_in_comment, is_in_front, openers_of}
use Rattle.gabc_body.specs.Syllable.{all_syllables}
use Rattle.gabc_score.specs.ReportedWithin.{AreOpenersBefore, IsPlace}
use Rattle.gabc_body.specs.witness.BodyBuilder.{with_all}
use Rattle.gabc_body.specs.witness.Gatherer.{Gathered}
use Rattle.gabc_score.specs.machine.PartKeeps.{KeptParts, joined, IsReading, PartKeeps}
use Rattle.gabc_score.specs.machine.ReadAgain.{Adds, IsNext, Reads}
use Rattle.gabc_score.specs.witness.BodyStage.{part_with, texts_by_stage}
use Rattle.gabc_body.proofs.gathering.BuilderHoldsDefinition.{gathered}
use Rattle.gabc_body.proofs.gathering.EventsOfOnePoint.{gathered_all}
use Rattle.gabc_body.proofs.emitted.EventsOfSyllableParts.{onto_append}
use Rattle.gabc_score.proofs.building.PartsOfKeptText.{stays}
use Rattle.gabc_score.proofs.keeping.PartsTakeCharacters.{TakesOne, takes_one}
use Rattle.gabc_score.specs.machine.StageLaws.{Again, Steps}
use Rattle.gabc_score.proofs.resuming.NextIsKept.{next_is}
use Rattle.gabc_score.proofs.score_events.OpenersInOrder.{opens_in_order, place_after_input}
use Rattle.gabc_body.proofs.stopped_scores.ClosedWithin.{close_count, made_count}

-- ---- places

-- no count of a place reaches its last value with n characters more
pub record HasRoom (p : Place) (n : ℕ) : Type 0 where
  pub line : p.line + n < 2 ^ 64
  pub column : p.column + n < 2 ^ 64

pub same_place : (p : Place) (c n : ℕ) → HasRoom p (suc n) → saturating_next_place p c ≡ next_place p c
same_place p c n h = grind (arith, h.line, h.column)

pub room_after : (p : Place) (c n : ℕ) → HasRoom p (suc n) → HasRoom (next_place p c) n
room_after p c n h = record { line = grind (arith, h.line); column = grind (arith, h.column) }

-- ---- where the reading stands

abbrev pub no_spans : Spans
no_spans = record { eu = false; nlba = false }

-- what was gathered of these events, the nearest first
abbrev pub gathered_of : List BodyEvent → Gathered
gathered_of before = gathered 0 0 before

-- A part stands here after these events, the nearest first, of which this was kept. No syllable is
-- whole, and no comment open.
pub record StandsAfter (lines macros : ℕ) (at : Place) (b : BodyPart) (before : List BodyEvent) (done : List ℕ) : Type 0 where
  pub reading : IsReading lines macros b no_spans (gathered_of before)
  pub kept : (gathered_of before).builder.kept ≡ encode_utf8_all done
  pub none : all_syllables before ≡ []
  pub outside : is_in_comment b ≡ false
  pub front : is_in_front b ≡ false
  pub stands : IsAt at b
  pub place : IsPlace at
  pub openers : AreOpenersBefore at (openers_of b)

-- no syllable is whole by events that make none
pub none_closed : (now before : List BodyEvent) → all_syllables before ≡ [] → all_syllables (events_onto now before) ≡ [] → close_count now ≡ 0
none_closed now before e f = omega (arith, made_count now before, ap length e, ap length f)

abbrev char_at : Place → ℕ → Char
char_at at c = record { c = c; place = at }

module _ (steps : Steps) (lines macros : ℕ) where
  -- what the events of a character add, where a part reads again
  pub record AddsAfter (before now : List BodyEvent) (more : List ℕ) : Type 0 where
    pub kept : (gathered_of (events_onto now before)).builder.kept ≡ (gathered_of before).builder.kept ++ encode_utf8_all more
    pub none : all_syllables (events_onto now before) ≡ all_syllables before

  pub adds_after : (before now : List BodyEvent) (more : List ℕ) → Adds (gathered_of before) (with_all (gathered_of before) now) more → AddsAfter before now more
  adds_after before now more a = grind (arith, gathered_all)

  -- with the next character
  stands_on : (at : Place) (b : BodyPart) (before : List BodyEvent) (done : List ℕ) (c n : ℕ) → (h : StandsAfter lines macros at b before done) → IsNext lines h.reading.parts c
      → length (encode_utf8_all done) < 2 ^ 64 → HasRoom at (suc n)
      → (let t = takes_one steps lines macros b h.reading.parts h.reading.keeps h.front (char_at at c) in StandsAfter lines macros (next_place at c) t.after (events_onto t.now before) (done ++ c ∷ []))
  stands_on at b before done c n h next fits room = record {
    reading = subst (IsReading lines macros t.after no_spans) all
        (subst (λ (s : Spans). IsReading lines macros t.after s (with_all (gathered_of before) t.now)) (stays no_spans (gathered_of before) (with_all (gathered_of before) t.now) adds.made)
        (t.keeps no_spans (gathered_of before) few h.reading));
    kept = more.kept ∙ ap (λ (k : List ℕ). k ++ encode_utf8_all (c ∷ [])) h.kept ∙ sym (encodes-append done (c ∷ []));
    none = more.none ∙ h.none;
    outside = reads.comment_is;
    front = t.front;
    stands = subst (λ (q : Place). IsAt q t.after) (same_place at c n room) (t.stands h.reading.parts h.reading.keeps h.stands);
    place = subst IsPlace (same_place at c n room) after.0;
    openers = subst (λ (q : Place). AreOpenersBefore q (openers_of t.after)) (same_place at c n room)
        (opens_in_order at (saturating_next_place at c) after.1 h.place (openers_of b) (openers_of t.after) (t.opens_on h.reading.parts h.reading.keeps h.stands) h.openers);
  }
    where
      t : TakesOne lines macros b (char_at at c)
      t = takes_one steps lines macros b h.reading.parts h.reading.keeps h.front (char_at at c)

      reads : Reads b h.reading.parts (char_at at c) (c ∷ []) false t.after t.now
      reads = t.again.next h.reading.parts h.reading.keeps h.outside next

      few : length (gathered_of before).builder.kept < 2 ^ 64
      few = let e = ap length h.kept in omega (arith, e, fits)

      adds : Adds (gathered_of before) (with_all (gathered_of before) t.now) (c ∷ [])
      adds = reads.adds (gathered_of before) h.reading.kept h.reading.from few

      all : with_all (gathered_of before) t.now ≡ gathered_of (events_onto t.now before)
      all = gathered_all 0 0 before (omega arith) t.now

      more : AddsAfter before t.now (c ∷ [])
      more = adds_after before t.now (c ∷ []) adds

      after : IsPlace (saturating_next_place at c) × IsEarlier at (saturating_next_place at c)
      after = let l = room.line in let k = room.column in place_after_input at c h.place (omega (arith, l)) (omega (arith, k))

  -- ---- all characters

  -- what these characters emit, whatever follows, and the part that stands after them
  pub record Emits (at : Place) (b : BodyPart) (rest : List ℕ) : Type 0 where
    pub lists : List (List BodyEvent)
    pub after : BodyPart
    pub each : length lists ≡ length rest
    pub emits : (ys : List Char) → (let xs = placed_characters_from at rest in events_from texts_by_stage lines macros (part_with b (xs ++ ys)) (xs ++ ys) ≡ lists ++ events_from texts_by_stage lines macros (part_with after ys) ys)

  unfoldable pub emits_none : (at : Place) (b : BodyPart) → Emits at b []
  emits_none at b = record { lists = []; after = b; each = refl; emits = λ ys. refl }

  unfoldable pub emits_one : (at : Place) (b : BodyPart) (c : ℕ) (rest : List ℕ) (t : TakesOne lines macros b (char_at at c)) → Emits (next_place at c) t.after rest → Emits at b (c ∷ rest)
  emits_one at b c rest t r = record {
    lists = t.now ∷ r.lists;
    after = r.after;
    each = ap (λ (n : ℕ). suc n) r.each;
    emits = λ ys. t.emits (placed_characters_from (next_place at c) rest ++ ys) ∙ ap (λ (lists : List (List BodyEvent)). t.now ∷ lists) (r.emits ys);
  }

  -- the reading of the characters that are kept again
  pub record ReadsOn (at : Place) (b : BodyPart) (before : List BodyEvent) (done rest : List ℕ) : Type 0 where
    pub read : Emits at b rest
    pub stands : StandsAfter lines macros (place_past at rest) read.after (events_onto (concat_of read.lists) before) (done ++ rest)
    pub notes : option_or (openers_of b).notes (notes_at (placed_characters_from at rest) read.lists) ≡ (openers_of read.after).notes

  no_other_notes : (o : Option Place) → option_or o None ≡ o
  no_other_notes o = grind arith

  -- the first `(` is the one
  notes_on : (was next : Option Place) (opened : Bool) (at : Place) (later last : Option Place) → next ≡ (if opened then Some at else was) → (is_some was ≡ true → opened ≡ false) → option_or next later ≡ last
      → option_or was (if opened then Some at else later) ≡ last
  notes_on was next opened at later last e once h = grind (arith, e, once, h)

  module _ (again : Again) (told : BodyPart) (p : KeptParts) (keeps : PartKeeps lines macros told p) (fits : length (encode_utf8_all (joined p)) < 2 ^ 64) where
    -- the next character of the text that is reported
    next_told : (b : BodyPart) (before : List BodyEvent) (done rest : List ℕ) (at : Place) (c : ℕ) → (h : StandsAfter lines macros at b before done) → done ++ c ∷ rest ≡ joined p → IsNext lines h.reading.parts c
    next_told b before done rest at c h is =
        next_is again lines macros b told h.reading.parts p c rest h.reading.keeps keeps
        (ap (λ (k : List ℕ). k ++ c ∷ rest) (encodes_same (joined h.reading.parts) done (sym h.reading.kept ∙ h.kept)) ∙ is)

    few_done : (done rest : List ℕ) → done ++ rest ≡ joined p → length (encode_utf8_all done) < 2 ^ 64
    few_done done rest is = grind (arith, encodes-append, length-append)

    pub reads_on : (rest : List ℕ) (at : Place) (b : BodyPart) (before : List BodyEvent) (done : List ℕ) → StandsAfter lines macros at b before done → HasRoom at (length rest) → done ++ rest ≡ joined p → ReadsOn at b before done rest
    unfolding emits_none emits_one
    reads_on [] at b before done h room is = record {
      read = emits_none at b;
      stands = subst (StandsAfter lines macros at b before) (sym (append-nil done)) h;
      notes = no_other_notes (openers_of b).notes;
    }
    reads_on (c ∷ rest) at b before done h room is =
        let x : Char = char_at at c in
        let next : IsNext lines h.reading.parts c = next_told b before done rest at c h is in
        let t : TakesOne lines macros b x = takes_one steps lines macros b h.reading.parts h.reading.keeps h.front x in
        let on : StandsAfter lines macros (next_place at c) t.after (events_onto t.now before) (done ++ c ∷ []) = stands_on at b before done c (length rest) h next (few_done done (c ∷ rest) is) room in
        let r = reads_on rest (next_place at c) t.after (events_onto t.now before) (done ++ c ∷ []) on (room_after at c (length rest) room) (append_assoc done (c ∷ []) rest ∙ is) in
        let xs : List Char = placed_characters_from (next_place at c) rest in
        record {
          read = emits_one at b c rest t r.read;
          stands = subst (StandsAfter lines macros (place_past (next_place at c) rest) r.read.after (events_onto (t.now ++ concat_of r.read.lists) before)) (append_assoc done (c ∷ []) rest)
              (subst (λ (es : List BodyEvent). StandsAfter lines macros (place_past (next_place at c) rest) r.read.after es ((done ++ c ∷ []) ++ rest)) (sym (onto_append t.now (concat_of r.read.lists) before)) r.stands);
          notes = notes_on (openers_of b).notes (openers_of t.after).notes (list_any opens t.now) at (notes_at xs r.read.lists) (openers_of r.read.after).notes
              (t.notes_are (none_closed t.now before h.none on.none)) t.opens_once r.notes;
        }
