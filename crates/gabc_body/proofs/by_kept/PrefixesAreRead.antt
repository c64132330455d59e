-- What is read of the first characters of a text is what was emitted of them.
use Rattle.std.proofs.Common.{◌≡◌, ℕ, zero, suc, ◌≤◌, ◌<◌, Bool, true, false, cond, List, [], ◌∷◌, ◌++◌, length, take, Option, None, append-nil, is_some, refl, sym, ap, subst, ◌∙◌, arith}
use Rattle.std.specs.Prelude.{◌↔◌}
use Rattle.std.specs.List.{All}
use Rattle.std.proofs.lemmas.List.Elements.{All-nil, All-cons, All-head, All-tail, All-append}
use Rattle.gabc_places.specs.Place.{next_place, place_past, placed_characters_from}
use Rattle.gabc_places.specs.StageLaw.{concat_of}
use Rattle.gabc_places.specs.declared.code.Code.TheVariants.{W12}
use Rattle.gabc_places.specs.declared.code.Finding.{Finding}
use Rattle.gabc_places.specs.declared.place.Char.{Char}
use Rattle.gabc_places.specs.declared.place.Place.{Place}
use Rattle.gabc_notes.specs.ReadAgain.{IsWarning}
use Rattle.gabc_notes.specs.declared.item.ItemKind.{ItemKind}
use Rattle.gabc_text.specs.Events.{events_by_point}
use Rattle.gabc_text.specs.declared.view.Piece.{Piece}
use Rattle.gabc_text.specs.BuiltText.{empty_view}
use Rattle.gabc_body.specs.Body.{events_onto, cut_of}
use Rattle.gabc_body.specs.Events.{texts_by_definition}
use Rattle.gabc_body.specs.NoteBeforeClef.{first_of, is_first_note, found_first}
use Rattle.gabc_body.specs.OneSyllable.{IsOneAlone}
use Rattle.gabc_body.specs.ReadAlone.{read_of, begun_after, no_spans, read_first, IsReadAsOne}
use Rattle.gabc_body.specs.ScoreEvents.{first_place}
use Rattle.gabc_body.specs.Reading.{BodyRead, no_place, kept_bytes, past}
use Rattle.gabc_body.specs.Syllable.{since_close, kept_of, all_syllables, is_eu, is_nlba, view_of, snippets_of, ended_parts_of}
use Rattle.gabc_body.specs.UnitRead.{first_events}
use Rattle.gabc_body.specs.declared.events.BodyEvent.{BodyEvent}
use Rattle.gabc_body.specs.witness.BodyBuilder.{with_all}
use Rattle.gabc_body.specs.witness.Gatherer.{Gathered}
use Rattle.gabc_body.specs.witness.PartsByKept.{PartRead, InText, part_at, emitted, part_after, events_by}
use Rattle.gabc_body.specs.witness.TextsByKept.{GoesByKept, TextsGoByKept}
use Rattle.gabc_body.proofs.gathering.BuilderHoldsDefinition.{gathered}
use Rattle.gabc_body.proofs.gathering.EventsOfOnePoint.{gathered_all, with_all_append}
use Rattle.gabc_body.proofs.by_kept.BodyByKept.{body_is}
use Rattle.gabc_body.proofs.by_kept.BodyCharacterKeepsAgreement.{step, kept_stands}
use Rattle.gabc_body.proofs.by_kept.ReadingAgreesWithEvents.{Fits, counts_fit, codes_placed, Stands}
use Rattle.gabc_body.proofs.by_kept.TextsAreGathered.{SpansStand}
use Rattle.gabc_body.proofs.order.FindingsOfParts.{found, found_append}

-- ---- findings that are warnings

all_left : (xs ys : List Finding) → All IsWarning (xs ++ ys) → All IsWarning xs
all_left [] ys h = All-nil IsWarning
all_left (x ∷ xs) ys h = All-cons IsWarning x xs (All-head IsWarning x (xs ++ ys) h) (all_left xs ys (All-tail IsWarning x (xs ++ ys) h))

all_right : (xs ys : List Finding) → All IsWarning (xs ++ ys) → All IsWarning ys
all_right [] ys h = h
all_right (x ∷ xs) ys h = all_right xs ys (All-tail IsWarning x (xs ++ ys) h)

-- a note before any clef is a warning
first_warns : (was now : Option ItemKind) (here : Place) → All IsWarning (found_first was now here)
first_warns was now here = by (is_first_note was now)
  where
    by : (o : Bool) → All IsWarning (cond o (record { place = here; code = W12 } ∷ []) [])
    by true = All-cons IsWarning (record { place = here; code = W12 }) [] refl (All-nil IsWarning)
    by false = All-nil IsWarning

with_warnings : (xs ys zs ws : List Finding) → All IsWarning ws → All IsWarning (xs ++ (ys ++ zs)) ↔ All IsWarning ((xs ++ (ys ++ ws)) ++ zs)
with_warnings xs ys zs ws w = (
  λ h. let a = all_left xs (ys ++ zs) h in let r = all_right xs (ys ++ zs) h in
      All-append IsWarning (xs ++ (ys ++ ws)) zs (All-append IsWarning xs (ys ++ ws) a (All-append IsWarning ys ws (all_left ys zs r) w)) (all_right ys zs r),
  λ h. let f = all_left (xs ++ (ys ++ ws)) zs h in
      All-append IsWarning xs (ys ++ zs) (all_left xs (ys ++ ws) f) (All-append IsWarning ys zs (all_left ys ws (all_right xs (ys ++ ws) f)) (all_right (xs ++ (ys ++ ws)) zs h)),
)

-- where the body read stands after the first characters; what is found with them and what was found
-- before are warnings if what the reading has found are
pub record StandsFurther (b : BodyRead) (g : Gathered) (said : List Finding) : Type 0 where
  pub part : PartRead
  pub place : Place
  pub rest : List ℕ
  pub found_is : List Finding
  pub stands : Stands part place rest b g found_is
  pub warns : All IsWarning said ↔ All IsWarning found_is

module _ (alike : TextsGoByKept) (lines macros : ℕ) where
  pub further : (n : ℕ) (t : List ℕ) (p : Place) (part : PartRead) (b : BodyRead) (g : Gathered) (fs : List Finding) → n ≤ length t → Stands part p t b g fs
      → let now = concat_of (take n (events_by texts_by_definition lines macros part (placed_characters_from p t))) in
      StandsFurther (read_of lines macros b (take n (placed_characters_from p t))) (with_all g now) (fs ++ found now)
  further zero t p part b g fs h s = record { part = part; place = p; rest = t; found_is = fs; stands = s; warns = (subst (All IsWarning) (append-nil fs), subst (All IsWarning) (sym (append-nil fs))) }
  further (suc n) [] p part b g fs h s = absurd (omega (arith, h))
  further (suc n) (c ∷ t) p part b g fs h s =
      let x : Char = record { c = c; place = p } in
      let xs = placed_characters_from (next_place p c) t in
      let here = part_at texts_by_definition part x xs in
      let now = emitted lines macros here x in
      let later = concat_of (take n (events_by texts_by_definition lines macros (part_after texts_by_definition lines macros here x xs) xs)) in
      let warning = found_first g.first_kind (with_all g now).first_kind p in
      let r = further n t (next_place p c) (part_after texts_by_definition lines macros here x xs) (past lines macros b x) (with_all g now) (fs ++ (found now ++ warning)) (omega (arith, h)) (step alike lines macros part p c t b g fs s) in
      let w = with_warnings fs (found now) (found later) warning (first_warns g.first_kind (with_all g now).first_kind p) in
      let same : fs ++ found (now ++ later) ≡ fs ++ (found now ++ found later) = ap (λ (gs : List Finding). fs ++ gs) (found_append now later) in
      record {
        part = r.part;
        place = r.place;
        rest = r.rest;
        found_is = r.found_is;
        stands = subst (λ (i : Gathered). Stands r.part r.place r.rest (read_of lines macros (past lines macros b x) (take n xs)) i r.found_is) (sym (with_all_append g now later)) r.stands;
        warns = (λ a. r.warns.0 (w.0 (subst (All IsWarning) same a)), λ a. subst (All IsWarning) (sym same) (w.1 (r.warns.1 a)));
      }

  -- a text begins after these events
  module _ (at : Place) (t : List ℕ) (before : List BodyEvent) (fits : Fits at t 0) (nothing : since_close before ≡ []) (uncut : cut_of before ≡ None) where
    abbrev xs : List Char
    xs = placed_characters_from at t

    abbrev b0 : BodyRead
    b0 = begun_after (all_syllables before) (is_eu before) (is_nlba before) (is_some (first_of before))

    abbrev g0 : Gathered
    g0 = gathered 0 0 before

    begins : Stands (InText (texts_by_definition at xs)) at t b0 g0 []
    begins = record {
      made_is = refl;
      uncut = uncut;
      sounded_is = refl;
      found_is = refl;
      fits = fits;
      reads = record {
        part_is = refl;
        before_is = refl;
        snippets_are = refl;
        no_snippets = ap snippets_of nothing;
        from_is = ap (λ (es : List BodyEvent). length (ended_parts_of es)) nothing;
        within = record {
          kept_is = ap kept_of nothing;
          spans = subst (λ (es : List BodyEvent). SpansStand (is_eu before) (is_nlba before) (kept_of es) (view_of es).pieces g0) (sym nothing)
              (record { eu_is = refl; nlba_is = refl; lie = All-nil (λ (q : Piece). q.span.to ≤ 0) });
        };
        goes = subst (λ (es : List BodyEvent). GoesByKept (place_past at t) xs [] no_place false (view_of es) (texts_by_definition at xs)) (sym nothing)
            (subst (λ (u : List ℕ). GoesByKept (place_past at t) xs [] no_place false empty_view (events_by_point at u)) (sym (codes_placed at t))
            (alike at t (counts_fit at t 0 fits)));
      };
    }

    -- what was made of its first n characters, and what is kept of the syllable that is read
    pub prefix_is_read : (n : ℕ) → n ≤ length t
        → let b = read_of lines macros b0 (take n xs) in
        let all = events_onto (first_events lines macros at xs n) before in
        (all_syllables all ≡ b.made) × (kept_of (since_close all) ≡ kept_bytes b.reading)
    prefix_is_read n h =
        let now = concat_of (take n (events_by texts_by_definition lines macros (InText (texts_by_definition at xs)) xs)) in
        let f = further n t at (InText (texts_by_definition at xs)) b0 g0 [] h begins in
        let e : first_events lines macros at xs n ≡ now = ap (λ (lists : List (List BodyEvent)). concat_of (take n lists)) (body_is texts_by_definition lines macros xs (InText (texts_by_definition at xs))) in
        let g : gathered 0 0 (events_onto (first_events lines macros at xs n) before) ≡ with_all g0 now = ap (λ (es : List BodyEvent). gathered 0 0 (events_onto es before)) e ∙ sym (gathered_all 0 0 before (omega arith) now) in (
          ap (λ (i : Gathered). i.made) g ∙ f.stands.made_is,
          ap (λ (i : Gathered). i.builder.kept) g ∙ kept_stands f.part f.place f.rest (read_of lines macros b0 (take n xs)) (with_all g0 now) f.found_is f.stands,
        )

-- a text that is one syllable by itself
pub one_alone : TextsGoByKept → (lines macros : ℕ) (t : List ℕ) → Fits first_place t 0 → IsOneAlone lines macros first_place t ↔ IsReadAsOne lines macros t
one_alone alike lines macros t fits = (
  λ o. record {
    syllable = o.syllable;
    none_earlier = λ n h. sym (made n (lt_le n (length t) h)) ∙ o.none_earlier n h;
    one = sym (made (length t) (omega arith)) ∙ o.one;
  },
  λ o. record {
    syllable = o.syllable;
    none_earlier = λ n h. made n (lt_le n (length t) h) ∙ o.none_earlier n h;
    one = made (length t) (omega arith) ∙ o.one;
  },
)
  where
    lt_le : (n m : ℕ) → n < m → n ≤ m
    lt_le n m h = omega (arith, h)

    made : (n : ℕ) → n ≤ length t → all_syllables (events_onto (first_events lines macros first_place (placed_characters_from first_place t) n) []) ≡ (read_first lines macros no_spans t n).made
    made n h = (prefix_is_read alike lines macros first_place t [] fits refl refl n h).0
