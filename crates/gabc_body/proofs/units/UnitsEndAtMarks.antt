-- The units of a body end at their marks.
use Rattle.std.proofs.Common.{◌≡◌, ℕ, ◌≤◌, nat_lt, map, List, [], ◌∷◌, ◌++◌, length, true, Option, Some, None, refl, sym, ap, subst, ◌∙◌, arith}
use Rattle.std.specs.List.{All}
use Rattle.std.specs.Option.{option_map}
use Rattle.std.proofs.lemmas.List.Elements.{All-nil, All-cons, All-append}
use Rattle.std.proofs.lemmas.Bool.{true≢false}
use Rattle.gabc_body.proofs.texts_of_body.TextEmitsThroughEnd.{text_mark}
use Rattle.gabc_body.proofs.snippets_of_body.SnippetEmitsThroughEnd.{line_marked, splits_on}
use Rattle.gabc_places.specs.declared.place.Place.{Place}
use Rattle.gabc_places.specs.declared.place.Char.{Char}
use Rattle.gabc_text.specs.Ends.{EndsOnce}
use Rattle.gabc_notes.specs.Ends.{IsMarkOf}
use Rattle.gabc_notes.specs.declared.stage.NoteEnd.{NoteEnd}
use Rattle.gabc_body.specs.Events.{PartAhead, text_from, snippet_from, next_line, after_mark, texts_by_definition}
use Rattle.gabc_body.specs.Units.{Opens, Next, Closes, EndedPart, BodyUnit, LastUnit, JustText, OpenNotes, Units, BodyCutting, CutPart, cut_part, whole, snippets_with, units_pieces, last_characters, cutting_of, EndsAfter, Cuts, first_text, BeginsWithLf, IsCutFrom, IsCut}
use Rattle.gabc_body.specs.SyllablesOfUnits.{ScoreUnit, snippets_in, characters_from, score_unit, closed_units, last_units, score_units}
use Rattle.gabc_body.specs.Marks.{EndAt, EndsAtItsMarks, EndAtTheirMarks, LastEndsAtItsMarks, AllEndAtTheirMarks}

-- the first text begins at the LF after the comment
pub first_is : (ys : List Char) → BeginsWithLf ys → (at : Place) × (first_text texts_by_definition ys ≡ text_from texts_by_definition at ys)
first_is [] h = elim h [ ]
first_is (x ∷ ys) h = (x.place, refl)

abbrev pub IsSingle : ScoreUnit → Type 0
IsSingle u = length u.snippets ≤ 1

module _ (ends_once : (at : Place) (t : List ℕ) → EndsOnce at t) (lines macros : ℕ) where
  text_ends : (at : Place) (e : EndedPart) (rest : List Char) → EndsAfter lines (text_from texts_by_definition at (e.characters ++ e.end ∷ rest)) e.characters Opens → e.end.c ≡ 40
  text_ends at e rest h = text_mark ends_once lines at e.characters e.end rest Opens h

  -- a snippet of GABC ends at a `|` only where notes are split
  next_ends : (line k : ℕ) (opened p : Place) (e : EndedPart) (rest : List Char) → EndsAfter lines (snippet_from lines macros line opened (e.characters ++ e.end ∷ rest)) e.characters (Next k p)
      → (e.end.c ≡ 124) × (splits_on lines line ≡ true)
  next_ends line k opened p e rest h =
      let m = line_marked lines macros opened line e.characters e.end rest (Next k p) h in
      subst (λ (how : NoteEnd). IsMarkOf (splits_on lines line) how e.end.c) m.2.0 m.1

  pub final_ends : (line : ℕ) (opened : Place) (e : EndedPart) (rest : List Char) → EndsAfter lines (snippet_from lines macros line opened (e.characters ++ e.end ∷ rest)) e.characters Closes → e.end.c ≡ 41
  final_ends line opened e rest h =
      let m = line_marked lines macros opened line e.characters e.end rest Closes h in
      subst (λ (how : NoteEnd). IsMarkOf (splits_on lines line) how e.end.c) m.2 m.1

  snippets_end : (line : ℕ) (opened : Place) (nexts : List EndedPart) (more : List CutPart) (last : List Char)
      → Cuts texts_by_definition lines macros (snippet_from lines macros line opened (whole (snippets_with lines line opened nexts more) last)) (snippets_with lines line opened nexts more) last
      → EndAt 124 nexts × ((l : ℕ) × Cuts texts_by_definition lines macros (snippet_from lines macros l opened (whole more last)) more last)
  snippets_end line opened [] more last h = (tt, (line, h))
  snippets_end line opened (e ∷ nexts) more last h = grind (arith, snippets_end (next_line lines line) opened nexts more last h.1, next_ends)

  all_end : (units : List BodyUnit) (last : LastUnit) (at : Place)
      → Cuts texts_by_definition lines macros (text_from texts_by_definition at (whole (units_pieces lines units last) (last_characters last))) (units_pieces lines units last) (last_characters last)
      → EndAtTheirMarks units × LastEndsAtItsMarks last
  all_end [] (JustText xs) at h = (tt, tt)
  all_end [] (OpenNotes text nexts xs) at h =
      (tt, (text_ends at text (whole (snippets_with lines 0 text.end.place nexts []) xs) h.0, (snippets_end 0 text.end.place nexts [] xs h.1).0))
  all_end (u ∷ units) last at h =
      let more = cut_part u.final Closes ∷ units_pieces lines units last in
      let n = snippets_end 0 u.text.end.place u.nexts more (last_characters last) h.1 in
      let r = all_end units last (after_mark u.final.end.place) n.1.1.1 in
      let here : EndsAtItsMarks u = record {
        text = text_ends at u.text (whole (snippets_with lines 0 u.text.end.place u.nexts more) (last_characters last)) h.0;
        nexts = n.0;
        final = final_ends n.1.0 u.text.end.place u.final (whole (units_pieces lines units last) (last_characters last)) n.1.1.0;
      } in
      ((here, r.0), r.1)

  pub units_end : (xs : List Char) (cut : BodyCutting) → IsCut texts_by_definition lines macros xs cut → AllEndAtTheirMarks cut.units
  units_end xs cut h = grind (arith, first_is, all_end)

  -- ---- without NABC lines

  none_next : lines ≡ 0 → (opened : Place) (nexts : List EndedPart) (more : List CutPart) (last : List Char)
      → Cuts texts_by_definition lines macros (snippet_from lines macros 0 opened (whole (snippets_with lines 0 opened nexts more) last)) (snippets_with lines 0 opened nexts more) last → nexts ≡ []
  none_next z opened [] more last h = refl
  none_next z opened (e ∷ nexts) more last h =
      let split : nat_lt 0 lines ≡ true = (next_ends 0 (next_line lines 0) opened opened e (whole (snippets_with lines (next_line lines 0) opened nexts more) last) h.0).1 in
      absurd (true≢false (sym split ∙ ap (nat_lt 0) z))

  all_single : lines ≡ 0 → (units : List BodyUnit) (last : LastUnit) (at : Place)
      → Cuts texts_by_definition lines macros (text_from texts_by_definition at (whole (units_pieces lines units last) (last_characters last))) (units_pieces lines units last) (last_characters last)
      → All IsSingle (closed_units units last)
  all_single z [] last at h = All-nil IsSingle
  all_single z (u ∷ units) last at h =
      let more = cut_part u.final Closes ∷ units_pieces lines units last in
      let none : u.nexts ≡ [] = none_next z u.text.end.place u.nexts more (last_characters last) h.1 in
      let n = snippets_end 0 u.text.end.place u.nexts more (last_characters last) h.1 in
      let one : length (map (λ (e : EndedPart). e.characters) (snippets_in u)) ≡ 1 = ap (λ (nexts : List EndedPart). length (map (λ (e : EndedPart). e.characters) (nexts ++ u.final ∷ []))) none in
      All-cons IsSingle (score_unit u (characters_from units last)) (closed_units units last) (omega (arith, one)) (all_single z units last (after_mark u.final.end.place) n.1.1.1)

  last_single : (last : LastUnit) → All IsSingle (last_units last)
  last_single last = grind (arith, All-cons, All-nil)

  pub units_single : (xs : List Char) (cut : BodyCutting) → lines ≡ 0 → IsCut texts_by_definition lines macros xs cut → All (λ (u : ScoreUnit). length u.snippets ≤ 1) (score_units cut.units)
  units_single xs cut z h = by cut.units h
    where
      by : (units : Option Units) → IsCutFrom texts_by_definition lines macros xs cut.comment (option_map (cutting_of lines) units) → All IsSingle (score_units units)
      by None k = All-nil IsSingle
      by (Some u) k =
          let pieces = units_pieces lines u.closed u.last in
          let f = first_is (whole pieces (last_characters u.last)) k.1.1.0 in
          All-append IsSingle (closed_units u.closed u.last) (last_units u.last)
          (all_single z u.closed u.last f.0 (subst (λ (part : PartAhead). Cuts texts_by_definition lines macros part pieces (last_characters u.last)) f.1 k.1.1.1)) (last_single u.last)
