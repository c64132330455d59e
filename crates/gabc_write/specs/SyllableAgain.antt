-- A printed syllable, and the one unit as which it is read again.
use Rattle.std.specs.Prelude.{◌≡◌, ◌≢◌, ℕ, List, [], ◌∷◌, ◌++◌, map, length, cond, false, codes, encode_utf8_all}
use Rattle.std.specs.List.{All}
use Rattle.gabc_places.specs.declared.place.Place.{Place}
use Rattle.gabc_places.specs.declared.place.Char.{Char}
use Rattle.gabc_places.specs.Place.{place_past, placed_characters_from}
use Rattle.gabc_places.specs.StageLaw.{concat_of}
use Rattle.gabc_text.specs.View.{kept, findings}
use Rattle.gabc_text.specs.ViewFacts.{ViewFacts, view_facts, has_error}
use Rattle.gabc_text.specs.Printed.{print, text_tokens, translation_tokens, text_of_tokens}
use Rattle.gabc_text.specs.Events.{codes_of}
use Rattle.gabc_notes.specs.SnippetRead.{findings_of}
use Rattle.gabc_notes.specs.ReadAgain.{IsWarning}
use Rattle.gabc_body.specs.declared.snippets.Snippet.{Snippet}
use Rattle.gabc_body.specs.Syllable.{UnplacedSyllable, slice}
use Rattle.gabc_body.specs.Canonical.{canonical}
use Rattle.gabc_body.specs.Events.{texts_by_definition, text_from, next_line, after_mark}
use Rattle.gabc_body.specs.Units.{EndedPart, BodyUnit, LastUnit, last_characters, units_pieces, Cuts}
use Rattle.gabc_body.specs.FoundInParts.{snippet_events}
use Rattle.gabc_body.specs.Holding.{IsSnippetOf, kept_on_line}
use Rattle.gabc_body.specs.SyllablesOfUnits.{ScoreUnit, with_ends, snippets_in, characters_in, characters_from, score_unit}
use Rattle.gabc_write.specs.PlainText.{IsText}

-- ---- what is printed

-- snippets with `|` between them
abbrev pub barred : List (List ℕ) → List ℕ
barred [] = []
barred (s ∷ []) = s
barred (s ∷ t ∷ ss) = s ++ 124 ∷ barred (t ∷ ss)

-- a text that says this, and its snippets
abbrev pub printed_syllable : ViewFacts → List (List ℕ) → List ℕ
printed_syllable v ss = print v ++ 40 ∷ (barred ss ++ 41 ∷ [])

-- from that line on, each is a snippet of the line whose turn it is
abbrev pub AreSnippetsFrom : ℕ → ℕ → List (List ℕ) → Type 0
AreSnippetsFrom lines line [] = Unit {0}
AreSnippetsFrom lines line (s ∷ ss) = IsSnippetOf line s × AreSnippetsFrom lines (next_line lines line) ss

-- the snippets of a syllable: one at least, and no more without NABC lines
pub record AreSnippets (lines : ℕ) (ss : List (List ℕ)) : Type 0 where
  pub some : ss ≢ []
  pub single : lines ≡ 0 → length ss ≡ 1
  pub each : AreSnippetsFrom lines 0 ss

-- what snippets with these characters keep, from that line on
abbrev pub kept_snippets : ℕ → ℕ → List (List Char) → List (List ℕ)
kept_snippets lines line [] = []
kept_snippets lines line (xs ∷ xss) = kept_on_line line xs ∷ kept_snippets lines (next_line lines line) xss

-- The canonical text of a syllable of this unit is a printed syllable: it says what the unit's text
-- says, and has the syllable's snippets, which a unit with notes keeps of its own. Its characters
-- are plain if the unit's are.
pub record IsPrinted (lines : ℕ) (u : ScoreUnit) (m : UnplacedSyllable) : Type 0 where
  pub snippets : List (List ℕ)
  pub are_snippets : AreSnippets lines snippets
  pub bytes : canonical m.text.word_start m ≡ encode_utf8_all (printed_syllable (view_facts u.text) snippets)
  pub texts : map (λ (s : Snippet). slice s.span m.kept) m.snippets ≡ map encode_utf8_all snippets
  pub own : u.snippets ≢ [] → snippets ≡ kept_snippets lines 0 u.snippets
  pub plain : IsText u.text → IsText u.notes → IsText (printed_syllable (view_facts u.text) snippets)

-- ---- what is read

-- These characters, the text of the first of them from that place on, are cut into these units and
-- what stands after them.
pub record AreUnitsFrom (lines macros : ℕ) (at : Place) (xs : List Char) (units : List BodyUnit) (last : LastUnit) : Type 0 where
  pub characters : xs ≡ characters_from units last
  pub cut : Cuts texts_by_definition lines macros (text_from texts_by_definition at xs) (units_pieces lines units last) (last_characters last)

-- The part has the characters of the snippet, keeps all of them, and no error is found in it, if it
-- is read from there on.
pub record IsSnippetAgain (lines macros line : ℕ) (e : EndedPart) (after : List Char) (s : List ℕ) : Type 0 where
  pub characters : codes_of e.characters ≡ s
  pub kept : kept_on_line line e.characters ≡ s
  pub warnings : All IsWarning (findings_of (concat_of (snippet_events lines macros line (e.characters ++ e.end ∷ after))))

-- so do all parts from that line on, with the characters after them
abbrev pub AreSnippetsAgain : ℕ → ℕ → ℕ → List EndedPart → List Char → List (List ℕ) → Type 0
AreSnippetsAgain lines macros line [] after [] = Unit {0}
AreSnippetsAgain lines macros line (e ∷ es) after (s ∷ ss) =
    IsSnippetAgain lines macros line e (with_ends es ++ after) s × AreSnippetsAgain lines macros (next_line lines line) es after ss
AreSnippetsAgain lines macros line _ after _ = ⊥

-- The unit, with these characters after it, says this: its text says the same without an error, and
-- its snippets are the same. All of its text is kept, the LF before a word as a blank, and its
-- notes are these snippets.
pub record SaysAgain (lines macros : ℕ) (unit : BodyUnit) (after : List Char) (v : ViewFacts) (ss : List (List ℕ)) : Type 0 where
  pub view_stays : view_facts (score_unit unit after).text ≡ v
  pub errors : (place : Place) → has_error (findings place (score_unit unit after).text) ≡ false
  pub kept : kept (score_unit unit after).text ≡ cond v.word_start (codes " ") [] ++ text_of_tokens (text_tokens v ++ translation_tokens v.translation)
  pub snippets : AreSnippetsAgain lines macros 0 (snippets_in unit) after ss
  pub notes : (score_unit unit after).notes ≡ 40 ∷ (barred ss ++ 41 ∷ [])

-- A printed syllable whose characters stand from this place on, whatever follows, is one unit that
-- says the same: if what follows is cut into units, then with the syllable in front there is one
-- more, wherever its text is said to begin.
pub record IsOneUnit (lines macros : ℕ) (at : Place) (v : ViewFacts) (ss : List (List ℕ)) (rest : List ℕ) : Type 0 where
  pub unit : BodyUnit
  pub after : List Char
  pub after_is : after ≡ placed_characters_from (place_past at (printed_syllable v ss)) rest
  pub characters : placed_characters_from at (printed_syllable v ss ++ rest) ≡ characters_in unit ++ after
  pub one_more : (begins : Place) (units : List BodyUnit) (last : LastUnit) → AreUnitsFrom lines macros (after_mark unit.final.end.place) after units last
      → AreUnitsFrom lines macros begins (placed_characters_from at (printed_syllable v ss ++ rest)) (unit ∷ units) last
  pub again : SaysAgain lines macros unit after v ss
