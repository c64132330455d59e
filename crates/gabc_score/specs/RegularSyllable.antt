-- Regular syllables: those that are read as they are written, and in which nothing is found.
use Rattle.std.specs.Prelude.{◌≡◌, ℕ, zero, suc, ◌+◌, List, [], ◌∷◌, ◌++◌, length, map, Bool, true, false, cond, encode_utf8_all}
use Rattle.gabc_places.specs.StageLaw.{concat_of}
use Rattle.gabc_places.specs.declared.place.Place.{Place}
use Rattle.gabc_places.specs.declared.place.Char.{Char}
use Rattle.gabc_places.specs.Place.{next_place, place_past, placed_characters_from}
use Rattle.gabc_text.specs.Canonical.{canonical_text}
use Rattle.gabc_text.specs.RegularText.{IsRegularText, is_gap, text_part, translation_part}
use Rattle.gabc_notes.specs.Regular as notes
use Rattle.gabc_nabc.specs.Regular as nabc
use Rattle.gabc_body.specs.declared.events.BodyEvent.{BodyEvent}
use Rattle.gabc_body.specs.Body.{events_onto, findings_of}
use Rattle.gabc_body.specs.Canonical.{canonical, translation_text}
use Rattle.gabc_body.specs.Syllable.{UnplacedSyllable, snippet_at, text_at}
use Rattle.gabc_body.specs.declared.snippets.Snippet.{Snippet}
use Rattle.gabc_body.specs.Events.{texts_by_definition, text_from, next_line, after_mark, events_from}
use Rattle.gabc_body.specs.UnitRead.{GivesOneSyllable, emitted_through}
use Rattle.gabc_body.specs.Units.{EndedPart, BodyUnit}

-- blanks with comments among them, a text and snippets, of which each of the first ends at a `|`,
-- and the last at the `)`
pub record SyllableParts : Type 0 where
  pub gap : List ℕ
  pub text : List ℕ
  pub nexts : List (List ℕ)
  pub final : List ℕ

-- the characters of the snippets with their marks
abbrev pub notes_spelled : List (List ℕ) → List ℕ → List ℕ
notes_spelled [] final = final ++ 41 ∷ []
notes_spelled (s ∷ nexts) final = s ++ 124 ∷ notes_spelled nexts final

-- the characters of a syllable
abbrev pub spelled : SyllableParts → List ℕ
spelled r = (r.gap ++ r.text) ++ 40 ∷ notes_spelled r.nexts r.final

-- a regular snippet of the line: of GABC on line 0, of NABC on each other line
abbrev pub IsRegularOn : ℕ → List ℕ → Type 0
IsRegularOn zero t = notes.IsRegular t
IsRegularOn (suc line) t = nabc.IsRegular t

module _ (lines : ℕ) where
  -- regular snippets, the first of them on the line
  abbrev pub AreRegularFrom : ℕ → List (List ℕ) → List ℕ → Type 0
  AreRegularFrom line [] final = IsRegularOn line final
  AreRegularFrom line (s ∷ nexts) final = IsRegularOn line s × AreRegularFrom (next_line lines line) nexts final

  -- Blanks and comments or none, a regular text and regular snippets are a regular syllable under n
  -- NABC lines: with none there is one snippet.
  pub record IsRegularSyllable (r : SyllableParts) : Type 0 where
    pub blanks : is_gap r.gap ≡ true
    pub text : IsRegularText r.text
    pub notes : AreRegularFrom 0 r.nexts r.final
    pub single : lines ≡ 0 → r.nexts ≡ []

-- ---- the unit of a syllable

-- a part that begins at a place, with the mark after it
abbrev pub ended_at : Place → List ℕ → ℕ → EndedPart
ended_at at t mark = record { characters = placed_characters_from at t; end = record { c = mark; place = place_past at t } }

-- the place after a part and its mark
abbrev pub after_part : Place → List ℕ → ℕ → Place
after_part at t mark = next_place (place_past at t) mark

abbrev pub nexts_at : Place → List (List ℕ) → List EndedPart
nexts_at at [] = []
nexts_at at (s ∷ nexts) = ended_at at s 124 ∷ nexts_at (after_part at s 124) nexts

abbrev pub final_at : Place → List (List ℕ) → List ℕ → EndedPart
final_at at [] final = ended_at at final 41
final_at at (s ∷ nexts) final = final_at (after_part at s 124) nexts final

-- the unit of a syllable whose first character is at a place
abbrev pub unit_at : Place → SyllableParts → BodyUnit
unit_at at r = let begun = after_part at (r.gap ++ r.text) 40 in record {
  text = ended_at at (r.gap ++ r.text) 40;
  nexts = nexts_at begun r.nexts;
  final = final_at begun r.nexts r.final;
}

-- ---- its events

-- If a text begins with the syllable at a place, and other characters follow it, it has a list of
-- events for each of its characters, and then the lists of a text that begins with the others,
-- after the `)`. Nothing is found in the syllable.
pub record IsReadAsItStands (lines macros : ℕ) (at : Place) (r : SyllableParts) (xs : List Char) : Type 0 where
  pub emitted : List (List BodyEvent)
  pub events_are : let all = placed_characters_from at (spelled r) ++ xs in
      events_from texts_by_definition lines macros (text_from texts_by_definition at all) all
      ≡ emitted ++ events_from texts_by_definition lines macros (text_from texts_by_definition (after_mark (unit_at at r).final.end.place) xs) xs
  pub one_each : length emitted ≡ length (spelled r)
  pub nothing : findings_of (events_onto (concat_of emitted) []) ≡ []

-- ---- the syllable that it makes

-- blanks before a text begin a word, and one of them is kept; comments are not
abbrev pub has_gap : List ℕ → Bool
has_gap [] = false
has_gap (c ∷ gap) = true

abbrev pub gap_kept : List ℕ → List ℕ
gap_kept gap = cond (has_gap gap) (32 ∷ []) []

-- the kept text of a syllable
abbrev pub kept_spelled : SyllableParts → List ℕ
kept_spelled r = (gap_kept r.gap ++ r.text) ++ 40 ∷ notes_spelled r.nexts r.final

-- its canonical text: an LF if it begins a word, and its text and notes as they are written
abbrev pub canonical_spelled : Bool → SyllableParts → List ℕ
canonical_spelled starts r = cond starts (10 ∷ []) [] ++ (r.text ++ 40 ∷ notes_spelled r.nexts r.final)

-- ---- its snippets

-- the bytes of these snippets, each with its line, the first of them on this line
abbrev pub with_lines : ℕ → ℕ → List (List ℕ) → List ℕ → List (ℕ × List ℕ)
with_lines lines line [] final = (line, encode_utf8_all final) ∷ []
with_lines lines line (s ∷ nexts) final = (line, encode_utf8_all s) ∷ with_lines lines (next_line lines line) nexts final

-- snippets of these bytes, each with its line, one after another with a mark between them, from
-- this byte on
abbrev pub spans_from : ℕ → List (ℕ × List ℕ) → List Snippet
spans_from at [] = []
spans_from at (t ∷ texts) = snippet_at t.0 at t.1 ∷ spans_from (at + length t.1 + 1) texts

-- those of a syllable: the first begins after the kept text of its text and a `(`
abbrev pub snippets_spelled : ℕ → SyllableParts → List Snippet
snippets_spelled lines r = spans_from (length (encode_utf8_all (gap_kept r.gap ++ r.text)) + 1) (with_lines lines 0 r.nexts r.final)

-- the bytes of a syllable's snippets, each with its line
abbrev pub line_and_text : List ℕ → Snippet → ℕ × List ℕ
line_and_text kept s = (s.line, text_at s.span kept)

abbrev pub snippet_texts : UnplacedSyllable → List (ℕ × List ℕ)
snippet_texts m = map (line_and_text m.kept) m.snippets

-- ---- all of it

-- The printed texts of a syllable's text and of its translation are those of this regular text.
pub record SaysText (m : UnplacedSyllable) (t : List ℕ) : Type 0 where
  pub text : canonical_text m.text m.kept ≡ encode_utf8_all (text_part t)
  pub translation : translation_text m.kept m.text.translation ≡ encode_utf8_all (translation_part t)

-- The syllable makes one syllable with its last character, after whatever was emitted before, and
-- nothing is found in it. It keeps its spelling, with one blank if there are some before its text,
-- and its spelling is its canonical text: text and translation, and each snippet on its line and in
-- its place.
pub record MakesItsSpelling (lines macros : ℕ) (at : Place) (r : SyllableParts) (before : List BodyEvent) : Type 0 where
  pub one : GivesOneSyllable lines macros at (unit_at at r) [] before
  pub nothing : findings_of (emitted_through lines macros at (unit_at at r) [] before) ≡ findings_of before
  pub kept_is : one.made.kept ≡ encode_utf8_all (kept_spelled r)
  pub starts_is : one.made.text.word_start ≡ has_gap r.gap
  pub canonical_is : (starts : Bool) → canonical starts one.made ≡ encode_utf8_all (canonical_spelled starts r)
  pub text_is : SaysText one.made r.text
  pub snippets_are : snippet_texts one.made ≡ with_lines lines 0 r.nexts r.final
  pub spans_are : one.made.snippets ≡ snippets_spelled lines r
