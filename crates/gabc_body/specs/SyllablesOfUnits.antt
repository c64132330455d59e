-- The syllables of a score are those of the units of its body, one after the other.
use Rattle.std.specs.Prelude.{◌⊎◌, zero, suc, ◌-◌, nat_lt, take, ◌≡◌, ◌≢◌, ℕ, List, [], ◌∷◌, ◌++◌, map, length, Bool, true, if◌then◌else◌, IsTrue, ◌↔◌, codes, encode_utf8_all, Option, Some, None}
use Rattle.std.specs.List.{All, flat_map}
use Rattle.gabc_places.specs.declared.place.Char.{Char}
use Rattle.gabc_text.specs.View.{kept}
use Rattle.gabc_text.specs.TextRead.{view_in}
use Rattle.gabc_text.specs.ViewFacts.{StandsForView, span_tags}
use Rattle.gabc_text.specs.Events.{codes_of}
use Rattle.gabc_body.specs.declared.snippets.Snippet.{Snippet}
use Rattle.gabc_body.specs.Body.{has_text, events_to_stop}
use Rattle.gabc_body.specs.Canonical.{position_by}
use Rattle.gabc_body.specs.Holding.{HoldsNotes, HoldsNoNotes}
use Rattle.gabc_body.specs.Syllable.{UnplacedSyllable, PlacedSyllable}
use Rattle.gabc_places.specs.Place.{placed_characters_after}
use Rattle.gabc_headers.specs.Book.{nabc_lines_of, macros_of}
use Rattle.gabc_body.specs.Events.{texts_by_definition, body_events}
use Rattle.gabc_headers.specs.Canonical.{canonical_heads}
use Rattle.gabc_headers.specs.Lines.{bytes_len}
use Rattle.gabc_places.specs.declared.limits.Limits.{Limits}
use Rattle.gabc_body.specs.declared.events.BodyEvent.{BodyEvent}
use Rattle.gabc_body.specs.Stops.{StopsAt, NeverStops}
use Rattle.gabc_body.specs.Score.{heads_text, after_heads}
use Rattle.gabc_body.specs.Units.{EndedPart, BodyUnit, LastUnit, JustText, OpenNotes, Units, BodyCutting, IsCut}

-- ---- the units of a score

-- the characters of parts, each with the one that ends it
abbrev pub with_ends : List EndedPart → List Char
with_ends [] = []
with_ends (e ∷ es) = e.characters ++ e.end ∷ with_ends es

-- the snippets of a unit, the last of which ends at its `)`
abbrev pub snippets_in : BodyUnit → List EndedPart
snippets_in u = u.nexts ++ u.final ∷ []

-- the characters of a unit, from its text through its `)`
abbrev pub characters_in : BodyUnit → List Char
characters_in u = with_ends (u.text ∷ snippets_in u)

-- the characters after the last `)`
abbrev pub last_in : LastUnit → List Char
last_in (JustText xs) = xs
last_in (OpenNotes text nexts xs) = with_ends (text ∷ nexts) ++ xs

-- the characters from these units on
abbrev pub characters_from : List BodyUnit → LastUnit → List Char
characters_from [] last = last_in last
characters_from (u ∷ units) last = characters_in u ++ characters_from units last

-- those of all units of a body, with those after the last `)`
abbrev pub unit_characters : Option Units → List Char
unit_characters None = []
unit_characters (Some u) = characters_from u.closed u.last

-- A unit of a score: all characters of the body from its text on, its notes from their `(` through
-- their `)`, and the characters of each snippet of its notes. A last text has no notes.
pub record ScoreUnit : Type 0 where
  pub text : List ℕ
  pub notes : List ℕ
  pub snippets : List (List Char)

abbrev pub score_unit : BodyUnit → List Char → ScoreUnit
score_unit u after = record {
  text = codes_of (characters_in u ++ after);
  notes = codes_of (u.text.end ∷ with_ends (snippets_in u));
  snippets = map (λ (e : EndedPart). e.characters) (snippets_in u);
}

-- the units that end at their `)`
abbrev pub closed_units : List BodyUnit → LastUnit → List ScoreUnit
closed_units [] last = []
closed_units (u ∷ units) last = score_unit u (characters_from units last) ∷ closed_units units last

-- the text after the last `)` is a unit if it has a piece, a centre or a translation
abbrev pub last_units : LastUnit → List ScoreUnit
last_units (JustText xs) =
    if has_text (view_in (codes_of xs)) then record { text = codes_of xs; notes = []; snippets = [] } ∷ [] else []
last_units (OpenNotes text nexts xs) = []

abbrev pub score_units : Option Units → List ScoreUnit
score_units None = []
score_units (Some u) = closed_units u.closed u.last ++ last_units u.last

-- ---- spans over several units

-- the tags of spans in the texts of units, in order
abbrev pub tags_in : List ScoreUnit → List (List ℕ)
tags_in units = flat_map (λ (u : ScoreUnit). span_tags u.text) units

-- of the two tags that open and close a span, the last among these opens it
pub record IsLeftOpen (opening closing : List ℕ) (tags : List (List ℕ)) : Type 0 where
  pub before : List (List ℕ)
  pub after : List (List ℕ)
  pub tags_are : tags ≡ before ++ opening ∷ after
  pub none_closes : All (λ tag. tag ≢ closing) after

-- ---- words

-- a unit begins a word if it is the first, or if its text does
abbrev pub begins_word : List ScoreUnit → ScoreUnit → Bool
begins_word [] u = true
begins_word (b ∷ before) u = (view_in u.text).word_start

-- the same of the next unit; the end of the units counts as one that begins a word
abbrev pub next_begins_word : List ScoreUnit → Bool
next_begins_word [] = true
next_begins_word (u ∷ after) = (view_in u.text).word_start

-- ---- the syllables

-- the notes of a unit: their snippets are read from the characters of the unit's snippets, one
-- after the other
pub record HasNotes (lines : ℕ) (u : ScoreUnit) (whole : List ℕ) (snippets : List Snippet) : Type 0 where
  pub holds : HoldsNotes lines u.notes whole (kept u.text) snippets
  pub characters_are : map (λ s. s.characters) (holds.earlier ++ holds.last ∷ []) ≡ u.snippets

-- a last text has no notes
abbrev pub NotesAre : ℕ → ScoreUnit → List (List Char) → List ℕ → List Snippet → Type 0
NotesAre lines u [] whole snippets = HoldsNoNotes u.notes whole (kept u.text) snippets
NotesAre lines u (xs ∷ xss) whole snippets = HasNotes lines u whole snippets

-- A syllable holds a unit: it has the view of the unit's text, and keeps this text and the unit's
-- notes as the whole for which its spans stand.
pub record HoldsUnit (lines : ℕ) (u : ScoreUnit) (m : UnplacedSyllable) : Type 0 where
  pub whole : List ℕ
  pub kept_is : m.kept ≡ encode_utf8_all whole
  pub view_is : m.text ≡ view_in u.text
  pub stands : StandsForView whole m.text u.text
  pub notes : NotesAre lines u u.snippets whole m.snippets

-- A syllable is that of a unit between these units: it holds the unit, the spans open after it are
-- those that the texts through its own leave open, and its position in its word is that of the
-- unit.
pub record IsSyllableOf (lines : ℕ) (before : List ScoreUnit) (u : ScoreUnit) (after : List ScoreUnit) (s : PlacedSyllable) : Type 0 where
  pub holds : HoldsUnit lines u s.made
  pub eu_is : IsTrue s.made.eu ↔ IsLeftOpen (codes "<eu>") (codes "</eu>") (tags_in (before ++ u ∷ []))
  pub nlba_is : IsTrue s.made.nlba ↔ IsLeftOpen (codes "<nlba>") (codes "</nlba>") (tags_in (before ++ u ∷ []))
  pub position_is : s.position ≡ position_by (begins_word before u) (next_begins_word after)

-- The syllables are those of the units: as many, and each is that of the unit at its place.
pub record AreSyllablesOf (lines : ℕ) (units : List ScoreUnit) (syllables : List PlacedSyllable) : Type 0 where
  pub count : length syllables ≡ length units
  pub each : (before after : List ScoreUnit) (u : ScoreUnit) (earlier later : List PlacedSyllable) (s : PlacedSyllable)
      → units ≡ before ++ u ∷ after → syllables ≡ earlier ++ s ∷ later → length earlier ≡ length before → IsSyllableOf lines before u after s

-- ---- the body of a text

-- the characters of the body after the headers
abbrev pub body_characters : List ℕ → List Char
body_characters t = placed_characters_after (heads_text t) (after_heads t)

-- the body of a text with this book has this cutting
abbrev pub IsBodyCut : List (List ℕ × List ℕ) → List ℕ → BodyCutting → Type 0
IsBodyCut book t cut = IsCut texts_by_definition (nabc_lines_of book) (macros_of book) (body_characters t) cut

-- ---- a stopped score

-- how many of these units end within n characters
abbrev pub count_within : ℕ → List BodyUnit → ℕ
count_within n [] = 0
count_within n (u ∷ units) =
    if nat_lt n (length (characters_in u)) then 0 else suc (count_within (n - length (characters_in u)) units)

-- the units whose `)` is one of n characters after the comment
abbrev pub units_within : ℕ → Option Units → List ScoreUnit
units_within n None = []
units_within n (Some u) = take (count_within n u.closed) (closed_units u.closed u.last)

-- The first n characters of a body come before its stop, the first point at which a limit is
-- passed. If none is passed at a character, these are all.
abbrev pub AreBeforeStop : Limits → ℕ → List Char → List (List BodyEvent) → ℕ → Type 0
AreBeforeStop limits head xs lists n =
    let r = events_to_stop limits head [] xs lists in
    (NeverStops limits head [] xs lists r × (n ≡ length xs)) ⊎ ((s : StopsAt limits head [] xs lists r) × (n ≡ length s.prefix))

-- the same of the body of a text with this book
abbrev pub AreBeforeBodyStop : Limits → List (List ℕ × List ℕ) → List ℕ → ℕ → Type 0
AreBeforeBodyStop limits book t n =
    let xs = body_characters t in
    AreBeforeStop limits (bytes_len (canonical_heads book)) xs (body_events (nabc_lines_of book) (macros_of book) xs) n

-- ---- the prefix of a stopped score

-- how many units end within n characters after the comment, and within n of the body
abbrev pub count_in : ℕ → Option Units → ℕ
count_in n None = 0
count_in n (Some u) = count_within n u.closed

abbrev pub whole_count : ℕ → BodyCutting → ℕ
whole_count n cut = count_in (n - length cut.comment) cut.units

-- the characters of the first units of a body
abbrev pub first_characters : ℕ → Option Units → List Char
first_characters k None = []
first_characters k (Some u) = flat_map characters_in (take k u.closed)

-- the characters of a body through the `)` of its unit k, from 1; none, if k is 0
abbrev pub through_unit : ℕ → BodyCutting → List Char
through_unit zero cut = []
through_unit (suc k) cut = cut.comment ++ first_characters (suc k) cut.units

-- A text through the `)` of the last unit that ends within n characters of its body, or
-- through its `%%`, if none does.
abbrev pub whole_prefix : List ℕ → BodyCutting → ℕ → List ℕ
whole_prefix t cut n = heads_text t ++ codes_of (through_unit (whole_count n cut) cut)
