-- The end of a body: what was read says what was emitted up to it.
use Rattle.std.proofs.Common.{◌≡◌, ℕ, ◌||◌, not, Bool, true, false, cond, List, [], ◌∷◌, ◌++◌, reverse, codes, Option, Some, None, is_some, refl, sym, ap, ◌∙◌, append_assoc, arith}
use Rattle.std.specs.Option.{option_map}
use Rattle.std.proofs.lemmas.Bool.{true≢false}
use Rattle.gabc_places.specs.declared.code.Code.{Code}
use Rattle.gabc_places.specs.declared.code.Code.TheVariants.{W9, W11, F6}
use Rattle.gabc_places.specs.declared.code.Fault.{Fault}
use Rattle.gabc_places.specs.declared.code.Finding.{Finding}
use Rattle.gabc_places.specs.declared.limits.Limits.{Limits}
use Rattle.gabc_places.specs.declared.place.Place.{Place}
use Rattle.gabc_text.specs.KeptText.{view_of_kept}
use Rattle.gabc_text.specs.TextView.{ViewContent}
use Rattle.gabc_text.specs.Token.{tokens}
use Rattle.gabc_text.specs.View.{codes_at_end}
use Rattle.gabc_text.specs.declared.view.Piece.{Piece}
use Rattle.gabc_body.specs.declared.body_result.BodyResult.{BodyResult}
use Rattle.gabc_body.specs.declared.events.BodyEvent.{BodyEvent}
use Rattle.gabc_body.specs.Body.{events_onto, code_by, fault_at, has_text, is_none, empty_snippet, all_units, found_at_end, findings_of, cut_of, fault_of_end, result_stopped, result_by_fault}
use Rattle.gabc_body.specs.Canonical.{with_positions}
use Rattle.gabc_body.specs.Reading.{BodyRead, kept_bytes, found_at, with_found, with_text_ended, with_syllable, ended, open_by, result_of, result_by_code, result_by_open}
use Rattle.gabc_body.specs.SpansPast.{open_past}
use Rattle.gabc_body.specs.Syllable.{UnplacedSyllable, all_syllables, since_close, kept_of}
use Rattle.gabc_body.specs.witness.BodyBuilder.{with_all}
use Rattle.gabc_body.specs.witness.Gatherer.{Gathered}
use Rattle.gabc_body.proofs.gathering.BuilderHoldsDefinition.{gathered}
use Rattle.gabc_body.proofs.gathering.EventsOfOnePoint.{gathered_all}
use Rattle.gabc_body.proofs.order.FindingsOfParts.{found, found_onto}

-- ---- what is said of what was gathered

abbrev syllable_in : Gathered → UnplacedSyllable
syllable_in g = record { text = g.builder.view; kept = g.builder.kept; snippets = empty_snippet g.builder.kept ∷ []; eu = g.eu; nlba = g.nlba }

abbrev units_in : Gathered → List UnplacedSyllable
units_in g = cond (has_text g.builder.view) (g.made ++ syllable_in g ∷ []) g.made

abbrev found_in_end : Place → Gathered → List Finding
found_in_end here g =
    cond (has_text g.builder.view) (record { place = here; code = W9 } ∷ []) []
    ++ cond (g.eu || g.nlba) (record { place = here; code = W11 } ∷ []) []

-- ---- a last text

no_pieces : (view : ViewContent) → has_text view ≡ false → view.pieces ≡ []
no_pieces view h = by view.pieces h
  where
    by : (ps : List Piece) → (not (is_none ps) || (is_some view.centre || is_some view.translation)) ≡ false → ps ≡ []
    by [] e = refl
    by (q ∷ ps) e = absurd (true≢false e)

-- what was gathered of a last text of which this is kept, of the body read so far
pub record LastText (b : BodyRead) (a : Gathered) : Type 0 where
  pub made_is : a.made ≡ b.made
  pub kept_is : a.builder.kept ≡ kept_bytes b.reading
  pub view_is : a.builder.view ≡ view_of_kept b.reading.kept
  pub eu_is : a.eu ≡ open_past (codes "<eu>") (codes "</eu>") (kept_bytes b.reading) (view_of_kept b.reading.kept).pieces b.eu
  pub nlba_is : a.nlba ≡ open_past (codes "<nlba>") (codes "</nlba>") (kept_bytes b.reading) (view_of_kept b.reading.kept).pieces b.nlba

-- with W11 of a span that is open
abbrev with_spans : Place → BodyRead → BodyRead
with_spans here b = with_found (found_at (cond (b.eu || b.nlba) (W11 ∷ []) []) here) b

module _ (here : Place) (b : BodyRead) (a : Gathered) (l : LastText b a) where
  abbrev view : ViewContent
  view = view_of_kept b.reading.kept

  abbrev kept : List ℕ
  kept = kept_bytes b.reading

  abbrev b1 : BodyRead
  b1 = with_text_ended here b

  abbrev made_then : BodyRead
  made_then = with_found (found_at (W9 ∷ []) here) (with_syllable kept b.reading.kept (empty_snippet kept ∷ []) b1)

  abbrev Ended : Bool → BodyRead
  Ended o = with_spans here (cond o made_then b1)

  syllable_is : syllable_in a ≡ record { text = view; kept = kept; snippets = empty_snippet kept ∷ []; eu = made_then.eu; nlba = made_then.nlba }
  syllable_is = λ i. record { text = l.view_is i; kept = l.kept_is i; snippets = empty_snippet (l.kept_is i) ∷ []; eu = l.eu_is i; nlba = l.nlba_is i }

  units_are : units_in a ≡ (ended here b).made
  units_are = ap (λ (v : ViewContent). cond (has_text v) (a.made ++ syllable_in a ∷ []) a.made) l.view_is ∙ by (has_text view)
    where
      by : (o : Bool) → cond o (a.made ++ syllable_in a ∷ []) a.made ≡ (Ended o).made
      by true = ap (λ (ms : List UnplacedSyllable). ms ++ syllable_in a ∷ []) l.made_is ∙ ap (λ (m : UnplacedSyllable). b.made ++ m ∷ []) syllable_is
      by false = l.made_is

  abbrev open_found : Bool → List Finding
  open_found o = cond o (record { place = here; code = W11 } ∷ []) []

  found_same : (o : Bool) → open_found o ≡ found_at (cond o (W11 ∷ []) []) here
  found_same true = refl
  found_same false = refl

  found_is : b1.found ++ found_in_end here a ≡ (ended here b).found
  found_is = ap (λ (v : ViewContent). b1.found ++ (cond (has_text v) (record { place = here; code = W9 } ∷ []) [] ++ open_found (a.eu || a.nlba))) l.view_is ∙ by (has_text view) refl
    where
      by : (o : Bool) → has_text view ≡ o → b1.found ++ (cond o (record { place = here; code = W9 } ∷ []) [] ++ open_found (a.eu || a.nlba)) ≡ (Ended o).found
      by true e =
          ap (λ (q : Bool). b1.found ++ (record { place = here; code = W9 } ∷ open_found (q || a.nlba))) l.eu_is
          ∙ ap (λ (q : Bool). b1.found ++ (record { place = here; code = W9 } ∷ open_found (made_then.eu || q))) l.nlba_is
          ∙ ap (λ (gs : List Finding). b1.found ++ (record { place = here; code = W9 } ∷ gs)) (found_same (made_then.eu || made_then.nlba))
          ∙ sym (append_assoc b1.found (record { place = here; code = W9 } ∷ []) (found_at (cond (made_then.eu || made_then.nlba) (W11 ∷ []) []) here))
      by false e =
          let none = no_pieces view e in
          ap (λ (q : Bool). b1.found ++ open_found (q || a.nlba)) (l.eu_is ∙ ap (λ (ps : List Piece). open_past (codes "<eu>") (codes "</eu>") kept ps b.eu) none)
          ∙ ap (λ (q : Bool). b1.found ++ open_found (b.eu || q)) (l.nlba_is ∙ ap (λ (ps : List Piece). open_past (codes "<nlba>") (codes "</nlba>") kept ps b.nlba) none)
          ∙ ap (λ (gs : List Finding). b1.found ++ gs) (found_same (b.eu || b.nlba))

-- ---- results

pub stopped_is : (limits : Limits) (fs : List Finding) (before : List BodyEvent) (b : BodyRead) (fault : Option Fault) → all_syllables before ≡ b.made → findings_of before ≡ b.found → result_stopped fs before fault ≡ result_of fs b fault
stopped_is limits fs before b fault m f =
    ap (λ (ms : List UnplacedSyllable). let r : BodyResult = record { syllables = with_positions ms; findings = fs ++ findings_of before; fault = fault } in r) m
    ∙ ap (λ (gs : List Finding). let r : BodyResult = record { syllables = with_positions b.made; findings = fs ++ gs; fault = fault } in r) f

module _ (limits : Limits) (head : ℕ) (fs : List Finding) (here : Place) (before last : List BodyEvent) (b : BodyRead) (made : all_syllables before ≡ b.made) (finds : findings_of before ≡ b.found) where
  abbrev a : Gathered
  a = with_all (gathered 0 0 before) last

  a_is : gathered 0 0 (events_onto last before) ≡ a
  a_is = sym (gathered_all 0 0 before (omega arith) last)

  -- a bracket is open
  pub end_cut : (q : Place) → a.cut ≡ Some q → open_by b.reading.part b.reading ≡ Some q
      → result_by_fault fs here before (events_onto last before) (fault_of_end limits head here (events_onto last before) (cut_of (events_onto last before))) ≡ result_by_open limits head fs here b (open_by b.reading.part b.reading)
  end_cut q c o =
      ap (λ (k : Option Place). result_by_fault fs here before (events_onto last before) (fault_of_end limits head here (events_onto last before) k)) (ap (λ (g : Gathered). g.cut) a_is ∙ c)
      ∙ stopped_is limits fs before b (Some (fault_at q F6)) made finds
      ∙ ap (result_by_open limits head fs here b) (sym o)

  -- nothing is open
  pub end_whole : a.cut ≡ None → open_by b.reading.part b.reading ≡ None → LastText b a → found last ≡ found_at (codes_at_end (reverse (tokens b.reading.kept))) here
      → result_by_fault fs here before (events_onto last before) (fault_of_end limits head here (events_onto last before) (cut_of (events_onto last before))) ≡ result_by_open limits head fs here b (open_by b.reading.part b.reading)
  end_whole c o l f =
      ap (λ (k : Option Place). result_by_fault fs here before (events_onto last before) (fault_of_end limits head here (events_onto last before) k)) (ap (λ (g : Gathered). g.cut) a_is ∙ c)
      ∙ (ap (λ (k : Option Code). result_by_fault fs here before (events_onto last before) (option_map (fault_at here) k)) code_is ∙ by (code_by limits head (ended here b).made (kept_bytes b.reading)))
      ∙ ap (result_by_open limits head fs here b) (sym o)
    where
      units : all_units (events_onto last before) ≡ (ended here b).made
      units = ap units_in a_is ∙ units_are here b a l

      code_is : code_by limits head (all_units (events_onto last before)) (kept_of (since_close (events_onto last before))) ≡ code_by limits head (ended here b).made (kept_bytes b.reading)
      code_is = ap (λ (ms : List UnplacedSyllable). code_by limits head ms (kept_of (since_close (events_onto last before)))) units ∙ ap (code_by limits head (ended here b).made) (ap (λ (g : Gathered). g.builder.kept) a_is ∙ l.kept_is)

      finds_all : findings_of (events_onto last before) ++ found_at_end here (events_onto last before) ≡ (ended here b).found
      finds_all =
          ap (λ (gs : List Finding). gs ++ found_at_end here (events_onto last before)) (found_onto last before ∙ ap (λ (gs : List Finding). gs ++ found last) finds ∙ ap (λ (gs : List Finding). b.found ++ gs) f)
          ∙ ap (λ (g : Gathered). (with_text_ended here b).found ++ found_in_end here g) a_is
          ∙ found_is here b a l

      by : (k : Option Code) → result_by_fault fs here before (events_onto last before) (option_map (fault_at here) k) ≡ result_by_code fs here b (ended here b) k
      by (Some code) = stopped_is limits fs before b (Some (fault_at here code)) made finds
      by None =
          ap (λ (ms : List UnplacedSyllable). let r : BodyResult = record { syllables = with_positions ms; findings = fs ++ (findings_of (events_onto last before) ++ found_at_end here (events_onto last before)); fault = None } in r) units
          ∙ ap (λ (gs : List Finding). let r : BodyResult = record { syllables = with_positions (ended here b).made; findings = fs ++ gs; fault = None } in r) finds_all
