-- A character of a body, whatever part it stands in.
use Rattle.std.proofs.Common.{◌≡◌, ℕ, ◌≤◌, ◌&&◌, ◌==◌, not, Bool, true, false, cond, List, [], ◌∷◌, ◌++◌, encode_utf8_all, refl, sym, ap, subst, ◌∙◌, append-nil, arith}
use Rattle.std.proofs.lemmas.List.Elements.{All-nil}
use Rattle.gabc_places.specs.Place.{next_place, place_past, placed_characters_from}
use Rattle.gabc_places.specs.declared.code.Finding.{Finding}
use Rattle.gabc_places.specs.declared.place.Char.{Char}
use Rattle.gabc_places.specs.declared.place.Place.{Place}
use Rattle.gabc_text.specs.BuiltText.{empty_view}
use Rattle.gabc_text.specs.Events.{events_by_point}
use Rattle.gabc_text.specs.TextView.{ViewContent}
use Rattle.gabc_text.specs.declared.view.Piece.{Piece}
use Rattle.gabc_body.specs.Events.{texts_by_definition}
use Rattle.gabc_body.specs.NoteBeforeClef.{found_first}
use Rattle.gabc_body.specs.Reading.{Reading, BodyRead, no_place, at_start, kept_bytes, fate_by, with_fate, past}
use Rattle.gabc_body.specs.Reading as read
use Rattle.gabc_body.specs.witness.Gatherer.{Gathered}
use Rattle.gabc_body.specs.witness.SyllableBuilder.{OpenSyllable}
use Rattle.gabc_body.specs.witness.PartsByKept.{PartRead, InComment, InText, InNotes, part_at, emitted, part_after}
use Rattle.gabc_body.specs.witness.TextsByKept.{GoesByKept, GoesIn, TextsGoByKept}
use Rattle.gabc_body.proofs.by_kept.ReadingAgreesWithEvents.{Fits, fits_next, counts_fit, codes_placed, Stands, StandsAfter}
use Rattle.gabc_body.proofs.by_kept.SnippetCharacterKeepsAgreement.{snippet_step}
use Rattle.gabc_body.proofs.by_kept.TextsAreGathered.{SpansStand}
use Rattle.gabc_body.proofs.by_kept.TextCharacterKeepsAgreement.{text_step, found_only}
use Rattle.gabc_body.proofs.texts_of_body.SeamsOfCharacters.{size}

-- ---- the comment before the body

module _ (alike : TextsGoByKept) (lines macros : ℕ) (p : Place) (c : ℕ) (t : List ℕ) (b : BodyRead) (g : Gathered) (fs : List Finding) (s : Stands InComment p (c ∷ t) b g fs) where
  abbrev x : Char
  x = record { c = c; place = p }

  abbrev xs : List Char
  xs = placed_characters_from (next_place p c) t

  abbrev b0 : BodyRead
  b0 = record b { reading = at_start true }

  abbrev text : PartRead
  text = InText (texts_by_definition p (x ∷ xs))

  fits_there : Fits p (c ∷ t) 0
  fits_there = subst (λ (r : Reading). Fits p (c ∷ t) (size (r.before ++ r.kept))) s.reads.reading_is s.fits

  -- the LF that ends it begins a text
  begins : (c == 10) ≡ true → Stands text p (c ∷ t) b0 g fs
  begins e = record {
    made_is = s.made_is;
    uncut = s.uncut;
    sounded_is = s.sounded_is;
    found_is = s.found_is;
    fits = fits_there;
    reads = record {
      part_is = refl;
      before_is = refl;
      snippets_are = refl;
      no_snippets = ap (λ (o : OpenSyllable). o.snippets) s.reads.nothing;
      from_is = ap (λ (o : OpenSyllable). o.from) s.reads.nothing;
      within = record {
        kept_is = ap (λ (o : OpenSyllable). o.kept) s.reads.nothing;
        spans = subst (λ (o : OpenSyllable). SpansStand b.eu b.nlba o.kept o.view.pieces g) (sym s.reads.nothing)
            (record { eu_is = s.reads.eu_is; nlba_is = s.reads.nlba_is; lie = All-nil (λ (q : Piece). q.span.to ≤ 0) });
      };
      goes = subst (λ (v : ViewContent). GoesByKept (place_past p (c ∷ t)) (x ∷ xs) [] no_place true v (texts_by_definition p (x ∷ xs))) (sym (ap (λ (o : OpenSyllable). o.view) s.reads.nothing))
          (subst (λ (o : Bool). GoesIn (true && not o) (GoesByKept (place_past (next_place p c) t) xs) x [] no_place empty_view (texts_by_definition p (x ∷ xs))) (sym e)
          (subst (λ (u : List ℕ). GoesByKept (place_past p (c ∷ t)) (x ∷ xs) [] no_place false empty_view (events_by_point p u)) (sym (codes_placed p (c ∷ t)))
          (alike p (c ∷ t) (counts_fit p (c ∷ t) 0 fits_there))));
    };
  }

  goes_on : Stands InComment (next_place p c) t b0 g (fs ++ ([] ++ found_first g.first_kind g.first_kind p))
  goes_on = record {
    made_is = s.made_is;
    uncut = s.uncut;
    sounded_is = s.sounded_is;
    found_is = found_only fs [] [] g.first_kind g.first_kind p refl refl ∙ append-nil fs ∙ s.found_is;
    fits = fits_next p c t 0 0 (omega arith) fits_there;
    reads = record { reading_is = refl; nothing = s.reads.nothing; eu_is = s.reads.eu_is; nlba_is = s.reads.nlba_is };
  }

  abbrev Then : Bool → BodyRead
  Then o = cond (true && not o) b0 (with_fate lines macros b0 x (fate_by lines read.InText [] c))

  comment_step : StandsAfter (part_after texts_by_definition lines macros (part_at texts_by_definition InComment x xs) x xs) (next_place p c) t (past lines macros b x) g fs p (emitted lines macros (part_at texts_by_definition InComment x xs) x)
  comment_step =
      subst (λ (r : Reading). StandsAfter (part_after texts_by_definition lines macros (part_at texts_by_definition InComment x xs) x xs) (next_place p c) t (past lines macros (record b { reading = r }) x) g fs p (emitted lines macros (part_at texts_by_definition InComment x xs) x)) (sym s.reads.reading_is)
      (by (c == 10) refl)
    where
      by : (o : Bool) → (c == 10) ≡ o
          → StandsAfter (part_after texts_by_definition lines macros (cond o text InComment) x xs) (next_place p c) t (Then o) g fs p (emitted lines macros (cond o text InComment) x)
      by false e = goes_on
      by true e = subst (λ (o : Bool). StandsAfter (part_after texts_by_definition lines macros text x xs) (next_place p c) t (Then o) g fs p (emitted lines macros text x)) e
          (text_step texts_by_definition lines macros p c t (texts_by_definition p (x ∷ xs)) b0 g fs (begins e))

-- ---- a character

pub step : TextsGoByKept → (lines macros : ℕ) (part : PartRead) (p : Place) (c : ℕ) (t : List ℕ) (b : BodyRead) (g : Gathered) (fs : List Finding) → Stands part p (c ∷ t) b g fs
    → let x : Char = record { c = c; place = p } in
    let xs = placed_characters_from (next_place p c) t in
    let here = part_at texts_by_definition part x xs in
    StandsAfter (part_after texts_by_definition lines macros here x xs) (next_place p c) t (past lines macros b x) g fs p (emitted lines macros here x)
step alike lines macros InComment p c t b g fs s = comment_step alike lines macros p c t b g fs s
step alike lines macros (InText lists) p c t b g fs s = text_step texts_by_definition lines macros p c t lists b g fs s
step alike lines macros (InNotes line opened state) p c t b g fs s = snippet_step alike lines macros p c t line opened state b g fs s

-- all that is kept of the syllable
pub kept_stands : (part : PartRead) (p : Place) (t : List ℕ) (b : BodyRead) (g : Gathered) (fs : List Finding) → Stands part p t b g fs → g.builder.kept ≡ kept_bytes b.reading
kept_stands InComment p t b g fs s = ap (λ (o : OpenSyllable). o.kept) s.reads.nothing ∙ ap kept_bytes (sym s.reads.reading_is)
kept_stands (InText lists) p t b g fs s = s.reads.within.kept_is ∙ ap (λ (u : List ℕ). encode_utf8_all (u ++ b.reading.kept)) (sym s.reads.before_is)
kept_stands (InNotes line opened state) p t b g fs s = s.reads.within.kept_is
