-- A text is kept again by all that it emits exactly if it is so by what is kept of it.
use Rattle.std.proofs.Common.{◌≡◌, ◌==◌, ◌&&◌, not, ◌<◌, ◌≤◌, ◌^◌, ◌+◌, ℕ, Bool, true, false, cond, if◌then◌else◌, List, [], ◌∷◌, ◌++◌, length, take, drop, take_all, Option, Some, None, is_some, encode_utf8_all, reverse, refl, sym, ap, subst, ◌∙◌, length-append, arith}
use Rattle.std.specs.Prelude.{◌↔◌}
use Rattle.std.specs.Char.{IsScalar}
use Rattle.std.specs.List.{All}
use Rattle.std.proofs.lemmas.Bool.{true≢false}
use Rattle.std.proofs.lemmas.List.Elements.{All-nil, All-cons, All-append}
use Rattle.std.proofs.lemmas.Str.{encodes-append, encodes_same}
use lib.Utf8.{encode}
use Rattle.gabc_places.proofs.PlacesOfAText.{length_placed, placed_append}
use Rattle.gabc_places.proofs.decoding.PlainTextsAreReadAgain.{all_scalars}
use Rattle.gabc_places.specs.Place.{next_place, place_past, placed_characters_from}
use Rattle.gabc_places.specs.StageLaw.{concat_of}
use Rattle.gabc_places.specs.declared.code.Finding.{Finding}
use Rattle.gabc_places.specs.declared.place.Char.{Char}
use Rattle.gabc_places.specs.declared.place.Place.{Place}
use Rattle.gabc_places.specs.Fate.{Fate, Keep, Comment}
use Rattle.gabc_text.specs.KeptText.{belongs}
use Rattle.gabc_text.specs.Token.{tokens}
use Rattle.gabc_notes.specs.KeptNotes.{in_raw}
use Rattle.gabc_body.specs.Body.{events_onto}
use Rattle.gabc_body.specs.Events.{events_at_end, texts_by_definition}
use Rattle.gabc_body.specs.NoteBeforeClef.{found_first}
use Rattle.gabc_body.specs.ReadAlone.{begun_after, read_of}
use Rattle.gabc_body.specs.Reading.{BodyRead, Part, fate_by, kept_as, past, with_fate}
use Rattle.gabc_body.specs.Reading as read
use Rattle.gabc_body.specs.ScoreEvents.{first_place}
use Rattle.gabc_body.specs.Syllable.{all_syllables, kept_of}
use Rattle.gabc_body.specs.declared.events.BodyEvent.{BodyEvent}
use Rattle.gabc_body.specs.witness.BodyBuilder.{with_all}
use Rattle.gabc_body.specs.witness.Gatherer.{Gathered}
use Rattle.gabc_body.specs.witness.PartsByKept.{PartRead, InText, ahead, emitted as emitted_by, events_by, part_after, part_at}
use Rattle.gabc_body.specs.witness.TextsByKept.{TextsGoByKept}
use Rattle.gabc_body.proofs.by_kept.BodyByKept.{body_is}
use Rattle.gabc_body.proofs.by_kept.BodyIsRead.{fits_so}
use Rattle.gabc_body.proofs.by_kept.BodyCharacterKeepsAgreement.{step}
use Rattle.gabc_body.proofs.by_kept.PrefixesAreRead.{prefix_is_read}
use Rattle.gabc_body.proofs.by_kept.ReadingAgreesWithEvents.{Fits, Stands}
use Rattle.gabc_body.proofs.gathering.EventsOfOnePoint.{gathered_all, with_all_append}
use Rattle.gabc_body.proofs.order.FindingsOfParts.{found}
use Rattle.gabc_score.specs.KeptAgain.{IsKeptAgain, is_in_notes as in_notes_by, is_inside as inside_by, read_alone}
use Rattle.gabc_score.specs.declared.body_tells.Openers.{Openers}
use Rattle.gabc_score.specs.machine.PartKeeps.{KeptParts, joined, text_before}
use Rattle.gabc_score.specs.machine.StageLaws.{StageLaws}
use Rattle.gabc_score.specs.witness.BodyStage.{part_with}
use Rattle.gabc_score.specs.witness.EmittedAgain.{IsEmittedAgain, emitted, is_in_notes, is_inside, lists, notes_at, placed}
use Rattle.gabc_score.proofs.by_kept.AllIsKept.{all_is_kept, none_closes}
use Rattle.gabc_score.proofs.by_kept.CommentsKeepNothing.{count, one_if, one_more, read_few}
use Rattle.gabc_score.proofs.by_kept.OpenIsRead.{IsOpenAs, open_as}
use Rattle.gabc_score.proofs.by_kept.SyllablesAreRead.{begins}
use Rattle.gabc_score.proofs.keeping.EndsOfParts.{cut_is}
use Rattle.gabc_score.proofs.keeping.KeptAgainIsReported.{KeepsText, keeps_text}
use Rattle.gabc_score.proofs.keeping.KeptIsKeptAgain.{inside_is, keeps_same, notes_at_all, r as reads_again, same as parts_same}
use Rattle.gabc_score.proofs.keeping.ReadByDefinition.{FromBeginning, begun_text, counts_fit, emitted_plain, end_is}
use Rattle.gabc_score.proofs.keeping.ReadByItself.{ReadsOn, gathered_of, no_spans}

-- ---- the reading of all of a text

-- The part that is read after all characters of a text, by the lists of what they and the end emit.
record StandsAtEnd (lines macros : ℕ) (ls : List (List BodyEvent)) (n : ℕ) (b : BodyRead) (g : Gathered) : Type 0 where
  part : PartRead
  place : Place
  found_is : List Finding
  stands : Stands part place [] b (with_all g (concat_of (take n ls))) found_is
  last : drop n ls ≡ events_at_end (ahead lines macros part []) ∷ []

module _ (alike : TextsGoByKept) (lines macros : ℕ) where
  through : (t : List ℕ) (p : Place) (part : PartRead) (b : BodyRead) (g : Gathered) (fs : List Finding) → Stands part p t b g fs
      → StandsAtEnd lines macros (events_by texts_by_definition lines macros part (placed_characters_from p t)) (length t) (read_of lines macros b (placed_characters_from p t)) g
  through [] p part b g fs s = record { part = part; place = p; found_is = fs; stands = s; last = refl }
  through (c ∷ t) p part b g fs s =
      let x : Char = record { c = c; place = p } in
      let xs = placed_characters_from (next_place p c) t in
      let here = part_at texts_by_definition part x xs in
      let now = emitted_by lines macros here x in
      let next = part_after texts_by_definition lines macros here x xs in
      let later = concat_of (take (length t) (events_by texts_by_definition lines macros next xs)) in
      let h = through t (next_place p c) next (past lines macros b x) (with_all g now) (fs ++ (found now ++ found_first g.first_kind (with_all g now).first_kind p)) (step alike lines macros part p c t b g fs s) in
      record {
        part = h.part;
        place = h.place;
        found_is = h.found_is;
        stands = subst (λ (i : Gathered). Stands h.part h.place [] (read_of lines macros (past lines macros b x) xs) i h.found_is) (sym (with_all_append g now later)) h.stands;
        last = h.last;
      }

-- ---- a `%` after it

module _ (lines macros : ℕ) where
  read_append : (xs ys : List Char) (b : BodyRead) → read_of lines macros b (xs ++ ys) ≡ read_of lines macros (read_of lines macros b xs) ys
  read_append [] ys b = refl
  read_append (x ∷ xs) ys b = read_append xs ys (past lines macros b x)

  module _ (at : Place) (b : BodyRead) where
    abbrev percent : Char
    percent = record { c = 37; place = at }

    -- it is kept, or begins a comment
    is_kept_or_begins : (p : Part) (k : List ℕ) → (o : Bool) × (fate_by lines p k 37 ≡ cond o Keep Comment)
    is_kept_or_begins read.InText k = (belongs (reverse (tokens k)) 37, refl)
    is_kept_or_begins (read.InNotes line) k = by (line == 0)
      where
        by : (z : Bool) → (o : Bool) × (cond z (cond (in_raw k) Keep Comment) Comment ≡ cond o Keep Comment)
        by true = (in_raw k, refl)
        by false = (false, refl)

    fate : Fate
    fate = fate_by lines b.reading.part b.reading.kept 37

    kept_or_begins : (o : Bool) × (fate ≡ cond o Keep Comment)
    unfolding fate
    kept_or_begins = is_kept_or_begins b.reading.part b.reading.kept

    with_percent : BodyRead
    with_percent = with_fate lines macros b percent fate

    outside : b.reading.comment ≡ false → past lines macros b percent ≡ with_percent
    unfolding fate with_percent
    outside e = ap (λ (o : Bool). cond (o && not (37 == 10)) b (with_fate lines macros b percent (fate_by lines b.reading.part b.reading.kept 37))) e

    -- it ends no part
    ends_none : with_percent.made ≡ b.made
    unfolding with_percent
    ends_none = ap (λ (f : Fate). (with_fate lines macros b percent f).made) kept_or_begins.1 ∙ by kept_or_begins.0
      where
        by : (o : Bool) → (with_fate lines macros b percent (cond o Keep Comment)).made ≡ b.made
        by true = refl
        by false = refl

    -- it is not kept exactly if it begins a comment
    adds_none : (with_percent.reading.before ++ with_percent.reading.kept ≡ b.reading.before ++ b.reading.kept) ↔ (fate ≡ Comment)
    unfolding with_percent
    adds_none = (
      λ h. by kept_or_begins.0 kept_or_begins.1 (ap (λ (f : Fate). let n = with_fate lines macros b percent f in n.reading.before ++ n.reading.kept) (sym kept_or_begins.1) ∙ h),
      λ e. ap (λ (f : Fate). let n = with_fate lines macros b percent f in n.reading.before ++ n.reading.kept) e,
    )
      where
        by : (o : Bool) → fate ≡ cond o Keep Comment → (let n = with_fate lines macros b percent (cond o Keep Comment) in n.reading.before ++ n.reading.kept ≡ b.reading.before ++ b.reading.kept) → fate ≡ Comment
        by true e h = absurd (let l = ap (λ (t : List ℕ). length t) h in let m = one_more b.reading.before b.reading.kept (kept_as b.reading.part b.reading.kept 37) in omega (arith, l, m))
        by false e h = e

module _ (alike : TextsGoByKept) (laws : StageLaws) (reads : FromBeginning) (lines macros : ℕ) (t : List ℕ) (openers : Openers) (comment : Bool) (scalar : All IsScalar t) (few : length (encode_utf8_all t) < 2 ^ 63) where
  fits : Fits first_place t 0
  fits = fits_so first_place t (omega arith) (counts_fit t (omega (arith, few))) (all_scalars t scalar)

  -- what is read of it
  all_of_it : BodyRead
  all_of_it = read_of lines macros (begun_after [] false false false) (placed_characters_from first_place t)

  -- all of a text is read by itself
  all_read : (u : List ℕ) → read_alone lines macros u ≡ read_of lines macros (begun_after [] false false false) (placed_characters_from first_place u)
  all_read u = ap (read_of lines macros (begun_after [] false false false)) (take_all (length u) (placed_characters_from first_place u) (omega (arith, length_placed first_place u)))

  whole : read_alone lines macros t ≡ all_of_it
  unfolding all_of_it
  whole = all_read t

  -- what its characters and the end emit
  abbrev left : List (List BodyEvent)
  left = events_by texts_by_definition lines macros (InText (texts_by_definition first_place (placed_characters_from first_place t))) (placed_characters_from first_place t)

  at_end : StandsAtEnd lines macros left (length t) all_of_it (gathered_of [])
  unfolding all_of_it
  at_end =
      through alike lines macros t first_place (InText (texts_by_definition first_place (placed_characters_from first_place t))) (begun_after [] false false false) (gathered_of []) []
      (begins alike lines macros t no_spans fits)

  lists_are : lists lines macros t ≡ left
  lists_are = body_is texts_by_definition lines macros (placed_characters_from first_place t) (InText (texts_by_definition first_place (placed_characters_from first_place t)))

  -- if all of it is kept, what is open is what is read
  module _ (kept : kept_of (emitted lines macros t) ≡ encode_utf8_all t) (none : all_syllables (emitted lines macros t) ≡ []) (kept_read : (let r = (read_alone lines macros t).reading in r.before ++ r.kept) ≡ t) where
    abbrev openers_there : Openers
    openers_there = record { notes = notes_at (placed lines macros t) (lists lines macros t); inner = if is_inside lines macros t then Some first_place else None }

    inside_there : (o : Bool) → is_some (if o then Some first_place else None) ≡ o
    inside_there true = refl
    inside_there false = refl

    there : KeepsText lines macros t false
    there = keeps_text laws reads lines macros t few openers_there false
        (record { kept = kept; none = none; percent = λ e. absurd (true≢false (sym e)); notes = refl; inner = inside_there (is_inside lines macros t) })

    -- its stage reads it again
    abbrev on : ReadsOn laws.steps lines macros first_place begun_text [] [] t
    on = reads_again laws reads lines macros t there.part there.parts there.keeps there.front there.is few

    abbrev g : Gathered
    g = with_all (gathered_of []) (concat_of (take (length t) left))

    gathered_is : g ≡ gathered_of (events_onto (concat_of on.read.lists) [])
    gathered_is =
        gathered_all 0 0 [] (omega arith) (concat_of (take (length t) left))
        ∙ ap (λ (ls : List (List BodyEvent)). gathered_of (events_onto (concat_of (take (length t) ls)) [])) (sym lists_are)
        ∙ ap gathered_of (emitted_plain reads laws.steps lines macros t few on.read)

    from_is : g.builder.from ≡ length (encode_utf8_all (text_before there.parts))
    from_is = ap (λ (i : Gathered). i.builder.from) gathered_is ∙ on.stands.reading.from
        ∙ ap (λ (q : KeptParts). length (encode_utf8_all (text_before q))) (parts_same laws reads lines macros t there.part there.parts there.keeps there.front there.is few)

    joined_is : all_of_it.reading.before ++ all_of_it.reading.kept ≡ joined there.parts
    joined_is = ap (λ (b : BodyRead). b.reading.before ++ b.reading.kept) (sym whole) ∙ kept_read ∙ sym there.is

    ends_alike : events_at_end (ahead lines macros at_end.part []) ++ [] ≡ events_at_end (part_with on.read.after []) ++ []
    ends_alike =
        ap (concat_of {T = BodyEvent}) (sym at_end.last)
        ∙ ap (λ (ls : List (List BodyEvent)). concat_of (drop (length t) ls)) (sym lists_are)
        ∙ end_is reads laws.steps lines macros t few on.read

    opens : IsOpenAs on.read.after all_of_it.reading
    opens =
        let keeps = keeps_same laws reads lines macros t there.part there.parts there.keeps there.front there.is few in
        open_as laws.ends lines macros at_end.place all_of_it g at_end.found_is on.read.after there.parts keeps on.stands.front
        (cut_is laws.ends lines macros on.read.after there.parts keeps on.stands.front (place_past first_place t) on.stands.openers)
        from_is joined_is at_end.part at_end.stands ends_alike

    open_is : (is_in_notes lines macros t ≡ in_notes_by (read_alone lines macros t).reading.part) × (is_inside lines macros t ≡ inside_by (read_alone lines macros t).reading.part (read_alone lines macros t).reading.kept)
    open_is = (
      ap (λ (o : Option Place). is_some o) (notes_at_all laws reads lines macros t there.part there.parts there.keeps there.front there.is few) ∙ opens.notes
          ∙ ap (λ (b : BodyRead). in_notes_by b.reading.part) (sym whole),
      inside_is laws reads lines macros t there.part there.parts there.keeps there.front there.is few ∙ opens.inner
          ∙ ap (λ (b : BodyRead). inside_by b.reading.part b.reading.kept) (sym whole),
    )

  -- ---- with a `%` after it

  abbrev more : List ℕ
  more = t ++ 37 ∷ []

  bytes_more : length (encode_utf8_all more) ≡ length (encode_utf8_all t) + 1
  unfolding encode
  bytes_more = let all = ap length (encodes-append t (37 ∷ [])) in let both = length-append (encode_utf8_all t) (encode_utf8_all (37 ∷ [])) in let l : length (encode_utf8_all (37 ∷ [])) ≡ 1 = refl in omega (arith, all, both, l)

  scalar_more : All IsScalar more
  scalar_more = All-append IsScalar t (37 ∷ []) scalar (All-cons IsScalar 37 [] refl (All-nil IsScalar))

  fits_more : Fits first_place more 0
  fits_more = fits_so first_place more (omega arith) (counts_fit more (omega (arith, few, bytes_more))) (all_scalars more scalar_more)

  after_percent : BodyRead
  unfolding all_of_it
  after_percent = with_percent lines macros (place_past first_place t) all_of_it

  -- all of the text is kept, so no comment is open
  outside_it : all_of_it.reading.before ++ all_of_it.reading.kept ≡ t → all_of_it.reading.comment ≡ false
  unfolding all_of_it
  outside_it e = no_comment all_of_it.reading.comment few_read
    where
      no_comment : (o : Bool) → length (all_of_it.reading.before ++ all_of_it.reading.kept) + one_if o ≤ length t → o ≡ false
      no_comment true h = absurd (let l = ap (λ (u : List ℕ). length u) e in omega (arith, h, l))
      no_comment false h = refl

      few_read : count all_of_it.reading ≤ length t
      few_read = let f = read_few lines macros (placed_characters_from first_place t) (begun_after [] false false false) in let l = length_placed first_place t in omega (arith, f, l)

  more_read : all_of_it.reading.comment ≡ false → read_alone lines macros more ≡ after_percent
  unfolding all_of_it after_percent
  more_read e =
      all_read more
      ∙ ap (read_of lines macros (begun_after [] false false false)) (placed_append first_place t (37 ∷ []))
      ∙ read_append lines macros (placed_characters_from first_place t) (placed_characters_from (place_past first_place t) (37 ∷ [])) (begun_after [] false false false)
      ∙ outside lines macros (place_past first_place t) all_of_it e

  -- what is kept with it
  percent_is : (let r = (read_alone lines macros t).reading in r.before ++ r.kept) ≡ t → (read_alone lines macros t).made ≡ []
      → (kept_of (emitted lines macros more) ≡ encode_utf8_all t) ↔ ((let r = (read_alone lines macros t).reading in fate_by lines r.part r.kept 37) ≡ Comment)
  unfolding after_percent fate
  percent_is kept none =
      let both = prefix_is_read alike lines macros first_place more [] fits_more refl refl (length more) (omega arith) in
      let same : all_of_it.reading.before ++ all_of_it.reading.kept ≡ t = ap (λ (b : BodyRead). b.reading.before ++ b.reading.kept) (sym whole) ∙ kept in
      let read = more_read (outside_it same) in
      let made : (read_alone lines macros more).made ≡ [] = ap (λ (b : BodyRead). b.made) read ∙ ends_none lines macros (place_past first_place t) all_of_it ∙ ap (λ (b : BodyRead). b.made) (sym whole) ∙ none in
      let all : kept_of (emitted lines macros more) ≡ encode_utf8_all (after_percent.reading.before ++ after_percent.reading.kept) =
      ap kept_of (sym (none_closes (emitted lines macros more) (both.0 ∙ made))) ∙ both.1 ∙ ap (λ (b : BodyRead). encode_utf8_all (b.reading.before ++ b.reading.kept)) read in
      let adds = adds_none lines macros (place_past first_place t) all_of_it in
      let there = ap (λ (b : BodyRead). fate_by lines b.reading.part b.reading.kept 37) whole in (
        λ h. there ∙ adds.0 (encodes_same (after_percent.reading.before ++ after_percent.reading.kept) t (sym all ∙ h) ∙ sym same),
        λ e. all ∙ ap encode_utf8_all (adds.1 (sym there ∙ e) ∙ same),
      )

  -- ---- both forms

  pub kept_again_is_read : IsEmittedAgain lines macros t openers comment ↔ IsKeptAgain lines macros t openers comment
  kept_again_is_read = (
    λ h. let a = (all_is_kept alike lines macros t fits).0 (h.kept, h.none) in
        let o = open_is h.kept h.none a.0 in
        record { kept = a.0; none = a.1; percent = λ e. (percent_is a.0 a.1).0 (h.percent e); notes = h.notes ∙ o.0; inner = h.inner ∙ o.1 },
    λ h. let a = (all_is_kept alike lines macros t fits).1 (h.kept, h.none) in
        let o = open_is a.0 a.1 h.kept in
        record { kept = a.0; none = a.1; percent = λ e. (percent_is h.kept h.none).1 (h.percent e); notes = h.notes ∙ sym o.0; inner = h.inner ∙ sym o.1 },
  )
