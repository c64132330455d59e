-- What a score finds is an error or a warning, and no fault.
use Rattle.std.proofs.Common.{◌≡◌, ℕ, ◌+◌, ◌<◌, ◌&&◌, nat_lt, not, List, [], ◌∷◌, Bool, cond, length, codes, Option, Some, None, Result, Ok, Err, option_map, inl, sym, subst, arith}
use Rattle.std.specs.Prelude.{◌≢◌}
use Rattle.std.specs.List.{All}
use Rattle.std.proofs.lemmas.Bool.{cond_both}
use Rattle.std.proofs.lemmas.List.Elements.{All-nil, All-cons, All-append, All-filter, All-map}
use Rattle.gabc_places.specs.declared.place.Place.{Place}
use Rattle.gabc_places.specs.declared.place.Char.{Char}
use Rattle.gabc_places.specs.declared.code.Code.{Code}
use Rattle.gabc_places.specs.declared.code.Code.TheVariants.{W9, W12}
use Rattle.gabc_places.specs.declared.severity.Severity.TheVariants.{Fatal}
use Rattle.gabc_places.specs.declared.code.Finding.{Finding}
use Rattle.gabc_places.specs.declared.limits.Limits.{Limits}
use Rattle.gabc_places.specs.Code.{severity_of, rank_of}
use Rattle.gabc_places.specs.Findings.{Known, findings_before, Stop, earliest}
use Rattle.gabc_places.specs.StageLaw.{concat_of}
use Rattle.gabc_places.specs.Place.{place_after, placed_characters_after}
use Rattle.gabc_headers.specs.declared.heads.Heads.{Heads}
use Rattle.gabc_headers.specs.declared.heads.HeadFault.{HeadFault}
use Rattle.gabc_headers.specs.Book.{nabc_lines_of, has_header, book_of, macros_of}
use Rattle.gabc_headers.specs.Lines.{lines, has_score}
use Rattle.gabc_headers.specs.Parts.{HeaderPart as HeadPart}
use Rattle.gabc_headers.specs.Heads.{findings_after as heads_found, findings_at, names_after, heads_of, findings_of as found_in_heads}
use Rattle.gabc_headers.specs.witness.Heads.{name_findings, head_findings, head_stops, heads_by}
use Rattle.gabc_headers.specs.witness.Parts.{head_parts}
use Rattle.gabc_text.specs.Events.{events_by_point}
use Rattle.gabc_text.specs.BuiltText.{found_in}
use Rattle.gabc_text.specs.View.{findings}
use Rattle.gabc_body.specs.declared.ending.InputEnding.{InputEnding}
use Rattle.gabc_body.specs.Events.{texts_by_definition, body_events}
use Rattle.gabc_body.specs.NoteBeforeClef.{score_events}
use Rattle.gabc_body.specs.Score.{heads_text, after_heads}
use Rattle.gabc_body.specs.witness.EmittedScore.{emitted_score, emitted_score_by}
use Rattle.gabc_body.specs.Units.{Cutting, IsCutFrom, cutting_of, events_of_parts, first_text, whole}
use Rattle.gabc_body.proofs.units.BodyHasOneCutting.{body_emits_all, one}
use Rattle.gabc_body.proofs.units.UnitsEndAtMarks.{first_is}
use Rattle.gabc_body.proofs.order.FindingsOneAfterAnother.{AllBelow}
use Rattle.gabc_body.proofs.order.FirstNotesOfParts.{all_with_first, past_comment}
use Rattle.gabc_body.proofs.order.FindingsOfCutParts.{pieces_low}
use Rattle.gabc_body.proofs.order.FindingsOfLayers.{all_below}
use Rattle.gabc_body.proofs.order.FindingsOfParts.{found}
use Rattle.gabc_body.proofs.order.FindingsOfReading.{read_finds}
use Rattle.gabc_body.proofs.order.FindingsOfScore.{reached_prefix}

abbrev pub IsNoFault : Finding → Type 0
IsNoFault f = severity_of f.code ≢ Fatal

-- codes below W12 are no faults
low_code : (code : Code) → rank_of code < rank_of W12 → severity_of code ≢ Fatal
low_code code h = grind arith

low_codes : (fs : List Finding) → AllBelow W12 fs → All IsNoFault fs
low_codes [] h = All-nil IsNoFault
low_codes (f ∷ fs) h = All-cons IsNoFault f fs (low_code f.code h.0) (low_codes fs h.1)

-- ---- of the headers

abbrev NoneKnown : List Known → Type 0
NoneKnown ks = All (λ (k : Known). IsNoFault k.finding) ks

one_known : (k : Known) → IsNoFault k.finding → NoneKnown (k ∷ [])
one_known k h = All-cons (λ (k : Known). IsNoFault k.finding) k [] h (All-nil (λ (k : Known). IsNoFault k.finding))

known_cond : (b : Bool) (ks ls : List Known) → NoneKnown ks → NoneKnown ls → NoneKnown (cond b ks ls)
known_cond b ks ls h k = cond_both b ks ls NoneKnown (λ e. h) (λ e. k)

before_point : (stop : ℕ) (ks : List Known) → NoneKnown ks → All IsNoFault (findings_before stop ks)
before_point stop ks h = All-map IsNoFault (λ (k : Known). k.finding) _ (All-filter (λ (k : Known). nat_lt k.point stop) (λ (k : Known). IsNoFault k.finding) ks h)

part_found : (seen : List (List ℕ)) (p : HeadPart) → NoneKnown (findings_at seen p)
part_found seen p = grind (arith, known_cond)

parts_found : (seen : List (List ℕ)) (ps : List HeadPart) → NoneKnown (heads_found seen ps)
parts_found seen [] = All-nil (λ (k : Known). IsNoFault k.finding)
parts_found seen (p ∷ ps) = All-append (λ (k : Known). IsNoFault k.finding) (findings_at seen p) _ (part_found seen p) (parts_found (names_after seen p) ps)

heads_known : (t : List ℕ) → NoneKnown (head_findings t)
heads_known t =
    All-append (λ (k : Known). IsNoFault k.finding) (heads_found [] (head_parts t)) (name_findings t) (parts_found [] (head_parts t))
    (known_cond (has_score (lines t) && not (has_header (codes "name") (book_of (head_parts t)))) _ _ (one_known _ (λ e. cc)) (All-nil (λ (k : Known). IsNoFault k.finding)))

heads_found_by : (t : List ℕ) (s : Option Stop) → All IsNoFault (found_in_heads (heads_by t s))
heads_found_by t None = before_point (length t + 1) (head_findings t) (heads_known t)
heads_found_by t (Some s) = before_point s.point (head_findings t) (heads_known t)

-- ---- of a body

-- each part has codes below that of a note before any clef
body_low : (below : (at : Place) (t : List ℕ) → AllBelow W9 (found_in (concat_of (events_by_point at t)))) (lines macros : ℕ) (xs : List Char) → AllBelow W12 (found (concat_of (body_events lines macros xs)))
body_low below lines macros xs =
    let o = one texts_by_definition lines macros xs in
    rw (body_emits_all texts_by_definition lines macros xs o.0 o.1, past_comment) (by o.0.comment (option_map (cutting_of lines) o.0.units) o.1)
  where
    by : (comment : List Char) (parts : Option Cutting) → IsCutFrom texts_by_definition lines macros xs comment parts → AllBelow W12 (found (concat_of (events_of_parts texts_by_definition lines macros parts)))
    by comment None h = tt
    by comment (Some d) h =
        let f = first_is (whole d.pieces d.last) h.1.1.0 in
        pieces_low lines macros below d.pieces d.last (first_text texts_by_definition (whole d.pieces d.last)) f.0 (inl f.1)

-- ---- of a score

module _ (low : (at : Place) (t : List ℕ) → All (λ (f : Finding). rank_of f.code < rank_of W9) (findings at t))
    (all : (at : Place) (t : List ℕ) → found_in (concat_of (events_by_point at t)) ≡ findings at t) where
  score_finds : (limits : Limits) (ending : InputEnding) (t : List ℕ) (r : Result Heads HeadFault) → All IsNoFault (found_in_heads r) → All IsNoFault (emitted_score_by limits ending t r).findings
  score_finds limits ending t (Err stop) h = h
  score_finds limits ending t (Ok heads) h =
      let xs = placed_characters_after (heads_text t) (after_heads t) in
      let emitted = body_events (nabc_lines_of heads.book) (macros_of heads.book) xs in
      let lists = score_events (nabc_lines_of heads.book) (macros_of heads.book) xs in
      read_finds IsNoFault (λ p e. cc) (λ p e. cc) limits _ heads.findings (place_after t) (concat_of lists) h
      (all_with_first IsNoFault (λ p e. cc) [] xs emitted
      (low_codes (found (concat_of emitted)) (body_low (λ at u. subst (AllBelow W9) (sym (all at u)) (all_below (findings at u) (low at u))) (nabc_lines_of heads.book) (macros_of heads.book) xs)))
      ending _ (reached_prefix limits _ [] xs lists)

  -- no finding of a score is a fault
  pub none_is_a_fault : (limits : Limits) (ending : InputEnding) (t : List ℕ) → All (λ (f : Finding). severity_of f.code ≢ Fatal) (emitted_score limits ending t).findings
  none_is_a_fault limits ending t = score_finds limits ending t (heads_of limits t) (heads_found_by t (earliest (head_stops limits t)))
