-- What is read of a body by what is kept is what the definition says by what is emitted.
use Rattle.std.proofs.Common.{◌≡◌, ℕ, ◌+◌, ◌<◌, ◌≤◌, ◌^◌, true, List, [], ◌∷◌, ◌++◌, map, length, encode_utf8_all, Option, Some, None, refl, sym, ap, subst, ◌∙◌, append-nil, arith}
use Rattle.std.proofs.lemmas.Bool.{and_parts}
use Rattle.std.proofs.lemmas.List.{take-append-drop}
use lib.Utf8.{scalar, scalars}
use Rattle.gabc_headers.specs.Book.{nabc_lines_of, macros_of}
use Rattle.gabc_headers.specs.Canonical.{canonical_heads}
use Rattle.gabc_headers.specs.Heads.{head_len}
use Rattle.gabc_headers.specs.Lines.{bytes_len}
use Rattle.gabc_headers.specs.declared.heads.Heads.{Heads}
use Rattle.gabc_places.proofs.PlacesOfAText.{placed_after, after_joined}
use Rattle.gabc_places.specs.Place.{next_place, place_after, place_past, placed_characters_after, placed_characters_from}
use Rattle.gabc_places.specs.declared.code.Code.{Code}
use Rattle.gabc_places.specs.declared.code.Fault.{Fault}
use Rattle.gabc_places.specs.declared.code.Finding.{Finding}
use Rattle.gabc_places.specs.declared.limits.Limits.{Limits}
use Rattle.gabc_places.specs.declared.place.Char.{Char}
use Rattle.gabc_places.specs.declared.place.Place.{Place}
use Rattle.gabc_text.specs.Events.{CountsFit}
use Rattle.gabc_notes.specs.declared.stage.NoteEvent.TheVariants as note
use Rattle.gabc_body.specs.declared.body_result.BodyResult.{BodyResult}
use Rattle.gabc_body.specs.declared.ending.InputEnding.{InputEnding}
use Rattle.gabc_body.specs.declared.ending.InputEnding.TheVariants.{Whole, Broken, At}
use Rattle.gabc_body.specs.declared.events.BodyEvent.{BodyEvent}
use Rattle.gabc_body.specs.declared.events.BodyEvent.TheVariants.{Notes}
use Rattle.gabc_body.specs.Body.{EventsToStop, events_onto, events_to_stop, stopped_events, code_by, code_at, fault_at, findings_of, body_of}
use Rattle.gabc_body.specs.Body as today
use Rattle.gabc_body.specs.Events.{texts_by_definition, events_at_end}
use Rattle.gabc_body.specs.NoteBeforeClef.{first_of, found_first, with_first, with_first_each, score_events}
use Rattle.gabc_body.specs.Reading.{BodyRead, begun, past, code_now, stops_by, read_on, body_by}
use Rattle.gabc_body.specs.Reading as read
use Rattle.gabc_body.specs.Score.{heads_text, after_heads}
use Rattle.gabc_body.specs.witness.EmittedScore.{emitted_body}
use Rattle.gabc_body.specs.Syllable.{UnplacedSyllable, all_syllables, since_close, kept_of}
use Rattle.gabc_body.specs.witness.BodyBuilder.{with_all}
use Rattle.gabc_body.specs.witness.Gatherer.{Gathered}
use Rattle.gabc_body.specs.witness.PartsByKept.{PartRead, InComment, part_at, ahead, emitted, part_after, events_by}
use Rattle.gabc_body.specs.witness.TextsByKept.{TextsGoByKept}
use Rattle.gabc_body.proofs.gathering.BuilderHoldsDefinition.{gathered}
use Rattle.gabc_body.proofs.gathering.EventsOfOnePoint.{gathered_all}
use Rattle.gabc_body.proofs.emitted.EventsOfSyllableParts.{onto_append}
use Rattle.gabc_body.proofs.by_kept.BodyByKept.{body_by_kept}
use Rattle.gabc_body.proofs.by_kept.BodyCharacterKeepsAgreement.{step, kept_stands}
use Rattle.gabc_body.proofs.by_kept.ResultsAgreeAtEnd.{stopped_is}
use Rattle.gabc_body.proofs.by_kept.PartsEndRead.{part_end}
use Rattle.gabc_body.proofs.by_kept.ReadingAgreesWithEvents.{Fits, Stands}
use Rattle.gabc_body.proofs.order.FindingsOfParts.{found, found_append, found_onto}
use Rattle.gabc_body.proofs.texts_of_body.BodyFits.{body_fits, bytes_encodes}

-- ---- room for the body of a text

scalars_back : (a b : List ℕ) → scalars (a ++ b) ≡ true → scalars b ≡ true
scalars_back [] b h = h
scalars_back (c ∷ a) b h = scalars_back a b (and_parts (scalar c) (scalars (a ++ b)) h).1

pub fits_so : (p : Place) (t : List ℕ) → 1 ≤ p.line → CountsFit p t → scalars t ≡ true → Fits p t 0
fits_so p t l f s = record { line = l; lines = f.line; column = f.column; bytes = let b = f.bytes in let e = bytes_encodes t in omega (arith, b, e); scalar = s }

heads_fit : (t : List ℕ) → scalars t ≡ true → length (encode_utf8_all t) < 2 ^ 63 → Fits (place_after (heads_text t)) (after_heads t) 0
heads_fit t s h = fits_so (place_after (heads_text t)) (after_heads t) (omega arith) (body_fits t h)
    (scalars_back (heads_text t) (after_heads t) (subst (λ (u : List ℕ). scalars u ≡ true) (sym (take-append-drop (head_len t + 2) t)) s))

-- ---- a note before any clef

abbrev first_events : List Finding → List BodyEvent
first_events fs = map (λ (f : Finding). Notes 0 (note.Found f)) fs

first_pass : (fs : List Finding) (g : Gathered) → with_all g (first_events fs) ≡ g
first_pass [] g = refl
first_pass (f ∷ fs) g = first_pass fs g

first_found : (fs : List Finding) → found (first_events fs) ≡ fs
first_found [] = refl
first_found (f ∷ fs) = ap (λ (gs : List Finding). f ∷ gs) (first_found fs)

-- ---- a character

module _ (before now : List BodyEvent) (here : Place) where
  abbrev firsts : List Finding
  firsts = found_first (first_of before) (first_of (events_onto now before)) here

  gathered_now : gathered 0 0 (events_onto now before) ≡ with_all (gathered 0 0 before) now
  gathered_now = sym (gathered_all 0 0 before (omega arith) now)

  -- what was gathered, with the note before any clef
  gathered_then : with_all (gathered 0 0 before) now ≡ gathered 0 0 (events_onto (now ++ first_events firsts) before)
  gathered_then =
      sym gathered_now
      ∙ sym (first_pass firsts (gathered 0 0 (events_onto now before)))
      ∙ gathered_all 0 0 (events_onto now before) (omega arith) (first_events firsts)
      ∙ ap (gathered 0 0) (sym (onto_append now (first_events firsts) before))

  -- what was found
  found_then : findings_of before ++ (found now ++ found_first (first_of before) (with_all (gathered 0 0 before) now).first_kind here) ≡ findings_of (events_onto (now ++ first_events firsts) before)
  found_then =
      ap (λ (g : Gathered). findings_of before ++ (found now ++ found_first (first_of before) g.first_kind here)) (sym gathered_now)
      ∙ ap (λ (gs : List Finding). findings_of before ++ (found now ++ gs)) (sym (first_found firsts))
      ∙ ap (λ (gs : List Finding). findings_of before ++ gs) (sym (found_append now (first_events firsts)))
      ∙ sym (found_onto (now ++ first_events firsts) before)

module _ (alike : TextsGoByKept) (limits : Limits) (head lines macros : ℕ) (fs : List Finding) (ending : InputEnding) where
  -- what is said where the events end so
  abbrev said : Place → EventsToStop → BodyResult
  said here r = today.result_by limits head fs here ending r.before r.last r.fault

  abbrev Agrees : List ℕ → Place → PartRead → BodyRead → List BodyEvent → Type 0
  Agrees t p part b before =
      let xs = placed_characters_from p t in
      said (place_past p t) (events_to_stop limits head before xs (with_first_each before xs (events_by texts_by_definition lines macros part xs)))
      ≡ read.result_by limits head fs (place_past p t) ending (read_on limits head lines macros b xs)

  code_is : (part : PartRead) (p : Place) (t : List ℕ) (b : BodyRead) (before : List BodyEvent) → Stands part p t b (gathered 0 0 before) (findings_of before) → code_at limits head before ≡ code_now limits head b
  code_is part p t b before s =
      ap (λ (ms : List UnplacedSyllable). code_by limits head ms (kept_of (since_close before))) s.made_is
      ∙ ap (code_by limits head b.made) (kept_stands part p t b (gathered 0 0 before) (findings_of before) s)

  stop : (o : Option Code) (here place : Place) (before : List BodyEvent) (b : BodyRead) (later : EventsToStop) (rest : BodyRead × Option Fault) → all_syllables before ≡ b.made → findings_of before ≡ b.found
      → said here later ≡ read.result_by limits head fs here ending rest
      → said here (stopped_events o place before later) ≡ read.result_by limits head fs here ending (stops_by o place b rest)
  stop (Some code) here place before b later rest m f h = stopped_is limits fs before b (Some (fault_at place code)) m f
  stop None here place before b later rest m f h = h

  at_end : (p : Place) (part : PartRead) (b : BodyRead) (before : List BodyEvent) → Stands part p [] b (gathered 0 0 before) (findings_of before) → (e : InputEnding)
      → today.result_at_end limits head fs p e before (events_onto (events_at_end (ahead lines macros part [])) before) ≡ read.result_at_end limits head fs p e b
  at_end p part b before s Whole = part_end limits head lines macros fs p before part b s
  at_end p part b before s Broken = stopped_is limits fs before b None s.made_is s.found_is
  at_end p part b before s (At fault) = stopped_is limits fs before b (Some fault) s.made_is s.found_is

  module _ (part : PartRead) (p : Place) (c : ℕ) (t : List ℕ) (b : BodyRead) (before : List BodyEvent) (s : Stands part p (c ∷ t) b (gathered 0 0 before) (findings_of before)) where
    abbrev x : Char
    x = record { c = c; place = p }

    abbrev xs : List Char
    xs = placed_characters_from (next_place p c) t

    abbrev here : PartRead
    here = part_at texts_by_definition part x xs

    abbrev now : List BodyEvent
    now = emitted lines macros here x

    abbrev all : List BodyEvent
    all = events_onto (with_first before x now) before

    abbrev after : PartRead
    after = part_after texts_by_definition lines macros here x xs

    abbrev next : BodyRead
    next = past lines macros b x

    stands_after : Stands after (next_place p c) t next (gathered 0 0 all) (findings_of all)
    stands_after =
        subst (λ (g : Gathered). Stands after (next_place p c) t next g (findings_of all)) (gathered_then before now p)
        (subst (λ (gs : List Finding). Stands after (next_place p c) t next (with_all (gathered 0 0 before) now) gs) (found_then before now p)
        (step alike lines macros part p c t b (gathered 0 0 before) (findings_of before) s))

    character_agrees : (Stands after (next_place p c) t next (gathered 0 0 all) (findings_of all) → Agrees t (next_place p c) after next all) → Agrees (c ∷ t) p part b before
    character_agrees later =
        let rest = events_to_stop limits head all xs (with_first_each all xs (events_by texts_by_definition lines macros after xs)) in
        ap (λ (o : Option Code). said (place_past (next_place p c) t) (stopped_events o p before rest)) (code_is after (next_place p c) t next all stands_after)
        ∙ stop (code_now limits head next) (place_past (next_place p c) t) p before b rest (read_on limits head lines macros next xs) s.made_is s.found_is (later stands_after)

  body_agrees : (t : List ℕ) (p : Place) (part : PartRead) (b : BodyRead) (before : List BodyEvent) → Stands part p t b (gathered 0 0 before) (findings_of before) → Agrees t p part b before
  body_agrees [] p part b before s =
      ap (λ (last : List BodyEvent). today.result_at_end limits head fs p ending before (events_onto last before)) (append-nil (events_at_end (ahead lines macros part [])))
      ∙ at_end p part b before s ending
  body_agrees (c ∷ t) p part b before s =
      let x : Char = record { c = c; place = p } in
      let xs = placed_characters_from (next_place p c) t in
      let here = part_at texts_by_definition part x xs in
      character_agrees part p c t b before s
      (body_agrees t (next_place p c) (part_after texts_by_definition lines macros here x xs) (past lines macros b x) (events_onto (with_first before x (emitted lines macros here x)) before))

  -- the body of a text that begins at this place
  pub body_is_read : (p : Place) (t : List ℕ) → Fits p t 0
      → body_of limits head fs (place_past p t) ending (placed_characters_from p t) (score_events lines macros (placed_characters_from p t))
      ≡ body_by limits head lines macros fs (place_past p t) ending (placed_characters_from p t)
  body_is_read p t fits =
      ap (λ (lists : List (List BodyEvent)). body_of limits head fs (place_past p t) ending (placed_characters_from p t) (with_first_each [] (placed_characters_from p t) lists)) (body_by_kept lines macros (placed_characters_from p t))
      ∙ body_agrees t p InComment begun [] (record {
        made_is = refl;
        uncut = refl;
        sounded_is = refl;
        found_is = refl;
        fits = fits;
        reads = record { reading_is = refl; nothing = refl; eu_is = refl; nlba_is = refl };
      })

-- the body of a text after its headers
pub score_body_is_read : TextsGoByKept → (limits : Limits) (ending : InputEnding) (t : List ℕ) (heads : Heads) → scalars t ≡ true → length (encode_utf8_all t) < 2 ^ 63
    → emitted_body limits ending t heads
    ≡ body_by limits (bytes_len (canonical_heads heads.book)) (nabc_lines_of heads.book) (macros_of heads.book) heads.findings (place_after t) ending (placed_characters_after (heads_text t) (after_heads t))
score_body_is_read alike limits ending t heads s h =
    let head = bytes_len (canonical_heads heads.book) in
    let lines = nabc_lines_of heads.book in
    let macros = macros_of heads.book in
    let at = place_after (heads_text t) in
    let xs = placed_characters_after (heads_text t) (after_heads t) in
    subst (λ (here : Place). body_of limits head heads.findings here ending xs (score_events lines macros xs) ≡ body_by limits head lines macros heads.findings here ending xs)
    (after_joined (heads_text t) (after_heads t) ∙ ap place_after (take-append-drop (head_len t + 2) t))
    (subst (λ (cs : List Char). body_of limits head heads.findings (place_past at (after_heads t)) ending cs (score_events lines macros cs) ≡ body_by limits head lines macros heads.findings (place_past at (after_heads t)) ending cs)
    (placed_after (heads_text t) (after_heads t))
    (body_is_read alike limits head lines macros heads.findings ending at (after_heads t) (heads_fit t s h)))
