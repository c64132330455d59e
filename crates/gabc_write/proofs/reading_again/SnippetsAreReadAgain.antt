-- Printed snippets with `|` between them are cut into themselves.
use Rattle.std.proofs.Common.{◌≡◌, ℕ, zero, suc, nat_lt, List, [], ◌∷◌, ◌++◌, length, take, Bool, true, if◌then◌else◌, Some, refl, sym, ap, subst, ◌∙◌, append_assoc, add-one, arith}
use Rattle.std.specs.List.{All}
use Rattle.gabc_text.proofs.KeptCharacters.{codes_placed}
use Rattle.gabc_places.specs.declared.place.Place.{Place}
use Rattle.gabc_places.specs.declared.place.Char.{Char}
use Rattle.gabc_places.specs.Place.{next_place, place_past, placed_characters_from}
use Rattle.gabc_places.specs.StageLaw.{concat_of}
use Rattle.gabc_places.proofs.PlacesOfAText.{length_placed}
use Rattle.gabc_patterns.specs.LongestItems.{IsSnippet}
use Rattle.gabc_notes.specs.Table.{gabc}
use Rattle.gabc_notes.specs.declared.stage.NoteEnd.{NoteEnd}
use Rattle.gabc_notes.specs.declared.stage.NoteEnd.TheVariants.{Next, Close, Cut}
use Rattle.gabc_notes.specs.declared.stage.NoteEvent.{NoteEvent}
use Rattle.gabc_notes.specs.Ends.{IsMarkOf}
use Rattle.gabc_notes.specs.Events as notes
use Rattle.gabc_notes.specs.SnippetRead.{ends_of, findings_of}
use Rattle.gabc_notes.specs.ReadAgain.{IsReadAgain, IsWarning}
use Rattle.gabc_nabc.specs.Table.{nabc}
use Rattle.gabc_nabc.specs.Events as nabc
use Rattle.gabc_nabc.specs.ReadAgain.{IsNabcReadAgain}
use Rattle.gabc_nabc.specs.SnippetRead.{kept_before}
use Rattle.gabc_body.specs.Events.{texts_by_definition, text_from, snippet_from, next_line, after_mark}
use Rattle.gabc_body.specs.Units as unit
use Rattle.gabc_body.specs.Units.{EndedPart, CutPart, cut_part, snippets_with, whole, EndsAfter, Cuts}
use Rattle.gabc_body.specs.Holding.{IsSnippetOf, kept_on_line}
use Rattle.gabc_body.specs.SyllablesOfUnits.{with_ends}
use Rattle.gabc_body.specs.FoundInParts.{snippet_events}
use Rattle.gabc_write.specs.SyllableAgain.{barred, AreSnippetsFrom, IsSnippetAgain, AreSnippetsAgain}
use Rattle.gabc_places.proofs.PlacesOfAText.{place_append, placed_append}
use Rattle.gabc_places.proofs.NumbersByTests.{suc_eqb}
use Rattle.gabc_write.proofs.reading_again.PartsEndAtTheirMarks.{mark_of, snippet_ends}

-- ---- the parts

-- the snippets that end at a `|`, and the one that ends at the `)`, from that place on
abbrev pub nexts_of : Place → List (List ℕ) → List EndedPart
nexts_of p [] = []
nexts_of p (s ∷ []) = []
nexts_of p (s ∷ t ∷ ss) = record { characters = placed_characters_from p s; end = record { c = 124; place = place_past p s } } ∷ nexts_of (next_place (place_past p s) 124) (t ∷ ss)

abbrev pub final_of : Place → List (List ℕ) → EndedPart
final_of p [] = record { characters = []; end = record { c = 41; place = p } }
final_of p (s ∷ []) = record { characters = placed_characters_from p s; end = record { c = 41; place = place_past p s } }
final_of p (s ∷ t ∷ ss) = final_of (next_place (place_past p s) 124) (t ∷ ss)

-- the characters of all of them, and what follows
abbrev pub spelled : List EndedPart → EndedPart → List Char → List Char
spelled nexts final further = with_ends nexts ++ (final.characters ++ final.end ∷ further)

pub snippets_spelled : (p : Place) (s : List ℕ) (ss : List (List ℕ)) (rest : List ℕ)
    → placed_characters_from p (barred (s ∷ ss) ++ 41 ∷ rest) ≡ spelled (nexts_of p (s ∷ ss)) (final_of p (s ∷ ss)) (placed_characters_from (place_past p (barred (s ∷ ss) ++ 41 ∷ [])) rest)
snippets_spelled p s [] rest = grind (arith, placed_append, place_append)
snippets_spelled p s (t ∷ ss) rest =
    let q : Place = next_place (place_past p s) 124 in
    let far : Place = place_past q (barred (t ∷ ss) ++ 41 ∷ []) in
    let past : place_past p (barred (s ∷ t ∷ ss) ++ 41 ∷ []) ≡ far = ap (place_past p) (append_assoc s (124 ∷ barred (t ∷ ss)) (41 ∷ [])) ∙ place_append p s (124 ∷ (barred (t ∷ ss) ++ 41 ∷ [])) in
    ap (placed_characters_from p) (append_assoc s (124 ∷ barred (t ∷ ss)) (41 ∷ rest))
    ∙ placed_append p s (124 ∷ (barred (t ∷ ss) ++ 41 ∷ rest))
    ∙ ap (λ (xs : List Char). placed_characters_from p s ++ record { c = 124; place = place_past p s } ∷ xs) (snippets_spelled q t ss rest)
    ∙ sym (append_assoc (placed_characters_from p s) (record { c = 124; place = place_past p s } ∷ with_ends (nexts_of q (t ∷ ss)))
    ((final_of q (t ∷ ss)).characters ++ (final_of q (t ∷ ss)).end ∷ placed_characters_from far rest))
    ∙ ap (λ (z : Place). spelled (nexts_of p (s ∷ t ∷ ss)) (final_of p (s ∷ t ∷ ss)) (placed_characters_from z rest)) (sym past)

-- the parts of snippets are their characters
pub whole_nexts : (lines line : ℕ) (opened : Place) (nexts : List EndedPart) (more : List CutPart) (last : List Char)
    → whole (snippets_with lines line opened nexts more) last ≡ with_ends nexts ++ whole more last
whole_nexts lines line opened [] more last = refl
whole_nexts lines line opened (e ∷ nexts) more last = grind (arith, whole_nexts lines (next_line lines line) opened nexts more last, append_assoc)

pub ends_with : (nexts : List EndedPart) (final : EndedPart) (further : List Char) → with_ends (nexts ++ final ∷ []) ++ further ≡ spelled nexts final further
ends_with [] final further = append_assoc final.characters (final.end ∷ []) further
ends_with (e ∷ nexts) final further = grind (arith, ends_with nexts final further, append_assoc)

-- ---- one snippet

record ReadAgain (lines macros line : ℕ) (p : Place) (s : List ℕ) (mark : ℕ) (how : NoteEnd) (rest : List ℕ) : Type 0 where
  bytes : ℕ
  unended : ends_of (concat_of (take (length s) (snippet_events lines macros line (placed_characters_from p (s ++ mark ∷ rest))))) ≡ []
  ended : ends_of (concat_of (take (suc (length s)) (snippet_events lines macros line (placed_characters_from p (s ++ mark ∷ rest))))) ≡ (how, bytes) ∷ []
  kept : kept_on_line line (placed_characters_from p s) ≡ s
  warnings : All IsWarning (findings_of (concat_of (snippet_events lines macros line (placed_characters_from p (s ++ mark ∷ rest)))))

-- a mark with the end that is emitted of it
record Marks (split : Bool) (mark : ℕ) (how : NoteEnd) : Type 0 where
  is_mark : IsMarkOf split how mark
  end_is : notes.end_by_mark mark ≡ how

-- a snippet of a later line is NABC
nabc_line : (lines macros line : ℕ) (xs : List Char) → nabc.nabc_events xs ≡ snippet_events lines macros (suc line) xs
nabc_line lines macros line xs = sym (ap (λ (b : Bool). if b then notes.note_events (nat_lt 0 lines) macros xs else nabc.nabc_events xs) (suc_eqb line))

module _ (gabc_again : (split : Bool) (macros : ℕ) (at : Place) (how : NoteEnd) (t rest : List ℕ) (mark : ℕ) → IsSnippet gabc t → IsMarkOf split how mark → IsReadAgain split macros at t mark rest)
    (nabc_again : (at : Place) (how : NoteEnd) (t rest : List ℕ) (mark : ℕ) → IsSnippet nabc t → IsMarkOf true how mark → IsNabcReadAgain at t mark rest)
    (lines macros : ℕ) where
  read_again : (line : ℕ) (p : Place) (s : List ℕ) (mark : ℕ) (how : NoteEnd) (rest : List ℕ) → IsSnippetOf line s → Marks (nat_lt 0 lines) mark how → ReadAgain lines macros line p s mark how rest
  read_again zero p s mark how rest h m =
      let r = gabc_again (nat_lt 0 lines) macros p how s rest mark h m.is_mark in
      record {
        bytes = notes.bytes_of s;
        unended = r.unended;
        ended = ap (λ (n : ℕ). ends_of (concat_of (take n (notes.note_events (nat_lt 0 lines) macros (placed_characters_from p (s ++ mark ∷ rest)))))) (sym (add-one (length s)))
            ∙ r.ended ∙ ap (λ (x : NoteEnd). (x, notes.bytes_of s) ∷ []) m.end_is;
        kept = r.kept;
        warnings = r.warnings;
      }
  read_again (suc line) p s mark how rest h m =
      let xs : List Char = placed_characters_from p (s ++ mark ∷ rest) in
      let r = nabc_again p how s rest mark h (by how m.is_mark) in
      let lists : nabc.nabc_events xs ≡ snippet_events lines macros (suc line) xs = nabc_line lines macros line xs in
      record {
        bytes = nabc.bytes_in s;
        unended = subst (λ (ls : List (List NoteEvent)). ends_of (concat_of (take (length s) ls)) ≡ []) lists r.unended;
        ended = subst (λ (ls : List (List NoteEvent)). ends_of (concat_of (take (suc (length s)) ls)) ≡ (how, nabc.bytes_in s) ∷ []) lists
            (ap (λ (n : ℕ). ends_of (concat_of (take n (nabc.nabc_events xs)))) (sym (add-one (length s)))
            ∙ r.ended ∙ ap (λ (x : NoteEnd). (x, nabc.bytes_in s) ∷ []) m.end_is);
        kept = ap (λ (t : List ℕ). kept_before t (mark ∷ rest)) (codes_placed p s) ∙ r.kept;
        warnings = subst (λ (ls : List (List NoteEvent)). All IsWarning (findings_of (concat_of ls))) lists r.warnings;
      }
    where
      by : (how : NoteEnd) → IsMarkOf (nat_lt 0 lines) how mark → IsMarkOf true how mark
      by Next m = (m.0, refl)
      by Close m = m
      by (Cut place) m = m

  -- it is a part that ends at its mark
  part_ends : (line : ℕ) (opened p : Place) (s : List ℕ) (mark : ℕ) (how : NoteEnd) (rest : List ℕ) (end : unit.Mark) → ReadAgain lines macros line p s mark how rest
      → mark_of lines line opened how ≡ Some end → EndsAfter lines (snippet_from lines macros line opened (placed_characters_from p (s ++ mark ∷ rest))) (placed_characters_from p s) end
  part_ends line opened p s mark how rest end r m = grind (arith, snippet_ends, length_placed)

  part_again : (line : ℕ) (p : Place) (s : List ℕ) (mark : ℕ) (how : NoteEnd) (rest : List ℕ) (further : List Char) → ReadAgain lines macros line p s mark how rest
      → further ≡ placed_characters_from (next_place (place_past p s) mark) rest
      → IsSnippetAgain lines macros line (record { characters = placed_characters_from p s; end = record { c = mark; place = place_past p s } }) further s
  part_again line p s mark how rest further r e = grind (arith, codes_placed, placed_append)

  -- ---- all snippets

  closing : Marks (nat_lt 0 lines) 41 Close
  closing = record { is_mark = refl; end_is = refl }

  dividing : nat_lt 0 lines ≡ true → Marks (nat_lt 0 lines) 124 Next
  dividing e = record { is_mark = (refl, e); end_is = refl }

  -- several of them only with NABC lines
  abbrev pub Several : List (List ℕ) → Type 0
  Several ss = (s t : List ℕ) (us : List (List ℕ)) → ss ≡ s ∷ t ∷ us → nat_lt 0 lines ≡ true

  several_later : (s t : List ℕ) (ss : List (List ℕ)) → Several (s ∷ t ∷ ss) → Several (t ∷ ss)
  several_later s t ss h a b us e = h s t ss refl

  abbrev next_from : Place → List ℕ → Place
  next_from p s = next_place (place_past p s) 124

  pub snippets_cut : (line : ℕ) (opened p : Place) (s : List ℕ) (ss : List (List ℕ)) (rest : List ℕ) (pieces : List CutPart) (last : List Char) → Several (s ∷ ss) → AreSnippetsFrom lines line (s ∷ ss)
      → whole pieces last ≡ placed_characters_from (place_past p (barred (s ∷ ss) ++ 41 ∷ [])) rest
      → Cuts texts_by_definition lines macros (text_from texts_by_definition (after_mark (final_of p (s ∷ ss)).end.place) (whole pieces last)) pieces last
      → Cuts texts_by_definition lines macros (snippet_from lines macros line opened (placed_characters_from p (barred (s ∷ ss) ++ 41 ∷ rest)))
      (snippets_with lines line opened (nexts_of p (s ∷ ss)) (cut_part (final_of p (s ∷ ss)) unit.Closes ∷ pieces)) last
  snippets_cut line opened p s [] rest pieces last several h w cut =
      (part_ends line opened p s 41 Close rest unit.Closes (read_again line p s 41 Close rest h.0 closing) refl, cut)
  snippets_cut line opened p s (t ∷ ss) rest pieces last several h w cut =
      let q : Place = next_from p s in
      let later : List ℕ = barred (t ∷ ss) ++ 41 ∷ rest in
      let parts : List CutPart = snippets_with lines (next_line lines line) opened (nexts_of q (t ∷ ss)) (cut_part (final_of q (t ∷ ss)) unit.Closes ∷ pieces) in
      let past : place_past p (barred (s ∷ t ∷ ss) ++ 41 ∷ []) ≡ place_past q (barred (t ∷ ss) ++ 41 ∷ []) =
      ap (place_past p) (append_assoc s (124 ∷ barred (t ∷ ss)) (41 ∷ [])) ∙ place_append p s (124 ∷ (barred (t ∷ ss) ++ 41 ∷ [])) in
      let further : whole pieces last ≡ placed_characters_from (place_past q (barred (t ∷ ss) ++ 41 ∷ [])) rest = w ∙ ap (λ (z : Place). placed_characters_from z rest) past in
      let more = snippets_cut (next_line lines line) opened q t ss rest pieces last (several_later s t ss several) h.1 further cut in
      let all : placed_characters_from q later ≡ whole parts last = snippets_spelled q t ss rest
      ∙ ap (λ (xs : List Char). spelled (nexts_of q (t ∷ ss)) (final_of q (t ∷ ss)) xs) (sym further)
      ∙ sym (whole_nexts lines (next_line lines line) opened (nexts_of q (t ∷ ss)) (cut_part (final_of q (t ∷ ss)) unit.Closes ∷ pieces) last) in (
        subst (λ (u : List ℕ). EndsAfter lines (snippet_from lines macros line opened (placed_characters_from p u)) (placed_characters_from p s) (unit.Next (next_line lines line) opened))
            (sym (append_assoc s (124 ∷ barred (t ∷ ss)) (41 ∷ rest)))
            (part_ends line opened p s 124 Next later (unit.Next (next_line lines line) opened) (read_again line p s 124 Next later h.0 (dividing (several s t ss refl))) refl),
        subst (λ (xs : List Char). Cuts texts_by_definition lines macros (snippet_from lines macros (next_line lines line) opened xs) parts last) all more,
      )

  pub snippets_again : (line : ℕ) (p : Place) (s : List ℕ) (ss : List (List ℕ)) (rest : List ℕ) (further : List Char) → Several (s ∷ ss) → AreSnippetsFrom lines line (s ∷ ss)
      → further ≡ placed_characters_from (place_past p (barred (s ∷ ss) ++ 41 ∷ [])) rest → AreSnippetsAgain lines macros line (nexts_of p (s ∷ ss) ++ final_of p (s ∷ ss) ∷ []) further (s ∷ ss)
  snippets_again line p s [] rest further several h e =
      (part_again line p s 41 Close rest further (read_again line p s 41 Close rest h.0 closing) (e ∙ ap (λ (z : Place). placed_characters_from z rest) (place_append p s (41 ∷ []))), tt)
  snippets_again line p s (t ∷ ss) rest further several h e =
      let q : Place = next_from p s in
      let later : List ℕ = barred (t ∷ ss) ++ 41 ∷ rest in
      let past : place_past p (barred (s ∷ t ∷ ss) ++ 41 ∷ []) ≡ place_past q (barred (t ∷ ss) ++ 41 ∷ []) =
      ap (place_past p) (append_assoc s (124 ∷ barred (t ∷ ss)) (41 ∷ [])) ∙ place_append p s (124 ∷ (barred (t ∷ ss) ++ 41 ∷ [])) in
      let after : further ≡ placed_characters_from (place_past q (barred (t ∷ ss) ++ 41 ∷ [])) rest = e ∙ ap (λ (z : Place). placed_characters_from z rest) past in
      let all : with_ends (nexts_of q (t ∷ ss) ++ final_of q (t ∷ ss) ∷ []) ++ further ≡ placed_characters_from q later =
      ends_with (nexts_of q (t ∷ ss)) (final_of q (t ∷ ss)) further ∙ ap (λ (xs : List Char). spelled (nexts_of q (t ∷ ss)) (final_of q (t ∷ ss)) xs) after ∙ sym (snippets_spelled q t ss rest) in (
        part_again line p s 124 Next later (with_ends (nexts_of q (t ∷ ss) ++ final_of q (t ∷ ss) ∷ []) ++ further) (read_again line p s 124 Next later h.0 (dividing (several s t ss refl))) all,
        snippets_again (next_line lines line) q t ss rest further (several_later s t ss several) h.1 after,
      )
