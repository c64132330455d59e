-- The cutting of a body: a comment, then units, and the characters after the last `)`.
--
-- A unit is a text with the `(` that ends it, and a note part: snippets of the lines 0, 1, .. and 0
-- again, the last of which ends at a `)`, each other at a `|`. Read one after the other, these are
-- the parts of the body: each is a text or a snippet, as `specs/Events.antt` reads it from where it
-- begins, and ends at the first character whose list has its end.
use Rattle.std.specs.Prelude.{◌≡◌, ℕ, List, [], ◌∷◌, ◌++◌, map, true, false, ◌==◌, if◌then◌else◌, Option, Some, None}
use Rattle.std.specs.List.{list_any}
use Rattle.std.specs.Option.{option_map}
use Rattle.gabc_places.specs.declared.place.Place.{Place}
use Rattle.gabc_places.specs.declared.place.Char.{Char}
use Rattle.gabc_body.specs.declared.events.BodyEvent.{BodyEvent}
use Rattle.gabc_body.specs.Events.{PartAhead, InComment, InText, InNotes, is_text_end, is_next, is_close, first_list, other_lists, events_in, events_at_end, Texts, text_from, snippet_from, next_line, after_mark}

-- ---- parts

-- The end of a part: of a text its `(`; of a snippet a `)`, or a `|` before a snippet on this line,
-- in notes whose `(` is at this place.
pub data Mark : Type 0 where
  Opens : Mark
  Next : ℕ → Place → Mark
  Closes : Mark

-- the characters of a part, and the one that ends it
pub record CutPart : Type 0 where
  pub characters : List Char
  pub end : Char
  pub mark : Mark

-- parts with their ends, and the characters of the last part, which has none
pub record Cutting : Type 0 where
  pub pieces : List CutPart
  pub last : List Char

-- the characters of a cutting
abbrev pub whole : List CutPart → List Char → List Char
whole [] last = last
whole (p ∷ pieces) last = p.characters ++ p.end ∷ whole pieces last

-- a part from its next character on
abbrev pub part_onward : PartAhead → PartAhead
part_onward InComment = InComment
part_onward (InText lists) = InText (other_lists lists)
part_onward (InNotes line opened lists) = InNotes line opened (other_lists lists)

-- the events of the characters of a part and of the point after them: the character that ends the
-- part, or the end
abbrev pub events_through : PartAhead → List Char → List (List BodyEvent)
events_through part [] = events_in part ∷ []
events_through part (x ∷ xs) = events_in part ∷ events_through (part_onward part) xs

module _ (lines : ℕ) where
  -- the end of a part in its first list
  abbrev pub mark_in : PartAhead → Option Mark
  mark_in InComment = None
  mark_in (InText lists) = if list_any is_text_end (first_list lists) then Some Opens else None
  mark_in (InNotes line opened lists) =
      if list_any is_next (first_list lists) then Some (Next (next_line lines line) opened) else
      if list_any is_close (first_list lists) then Some Closes else
      None

  -- none of these characters ends the part
  abbrev pub Endless : PartAhead → List Char → Type 0
  Endless part [] = Unit
  Endless part (x ∷ xs) = (mark_in part ≡ None) × Endless (part_onward part) xs

  -- the character after these is the first that ends the part
  abbrev pub EndsAfter : PartAhead → List Char → Mark → Type 0
  EndsAfter part [] mark = mark_in part ≡ Some mark
  EndsAfter part (x ∷ xs) mark = (mark_in part ≡ None) × EndsAfter (part_onward part) xs mark

module _ (texts : Texts) (lines macros : ℕ) where
  -- the part that begins with the characters `xs`, after a part with this end at `x`
  abbrev pub part_following : Mark → Char → List Char → PartAhead
  part_following Opens x xs = snippet_from lines macros 0 x.place xs
  part_following (Next line opened) x xs = snippet_from lines macros line opened xs
  part_following Closes x xs = text_from texts (after_mark x.place) xs

  -- the parts are cut where they end, the first of them this one
  abbrev pub Cuts : PartAhead → List CutPart → List Char → Type 0
  Cuts part [] last = Endless lines part last
  Cuts part (p ∷ pieces) last = EndsAfter lines part p.characters p.mark × Cuts (part_following p.mark p.end (whole pieces last)) pieces last

  -- the events of parts that are cut so, one after the other
  abbrev pub events_of_cutting : PartAhead → List CutPart → List Char → List (List BodyEvent)
  events_of_cutting part [] last = events_through part last
  events_of_cutting part (p ∷ pieces) last = events_through part p.characters ++ events_of_cutting (part_following p.mark p.end (whole pieces last)) pieces last

-- ---- units

-- a text or a snippet, with the character that ends it
pub record EndedPart : Type 0 where
  pub characters : List Char
  pub end : Char

-- a text with its `(`, the snippets that end at a `|`, and the one that ends at the `)`
pub record BodyUnit : Type 0 where
  pub text : EndedPart
  pub nexts : List EndedPart
  pub final : EndedPart

-- after the last `)`: a text, or a text with its `(` and notes that never end, the snippets with
-- their `|` and the rest
pub data LastUnit : Type 0 where
  JustText : List Char → LastUnit
  OpenNotes : EndedPart → List EndedPart → List Char → LastUnit

pub record Units : Type 0 where
  pub closed : List BodyUnit
  pub last : LastUnit

abbrev pub cut_part : EndedPart → Mark → CutPart
cut_part e mark = record { characters = e.characters; end = e.end; mark = mark }

abbrev pub last_characters : LastUnit → List Char
last_characters (JustText xs) = xs
last_characters (OpenNotes text nexts xs) = xs

module _ (lines : ℕ) where
  -- snippets that end at a `|`, from this line on, in notes whose `(` is at this place, and the
  -- parts after them
  abbrev pub snippets_with : ℕ → Place → List EndedPart → List CutPart → List CutPart
  snippets_with line opened [] more = more
  snippets_with line opened (e ∷ nexts) more =
      cut_part e (Next (next_line lines line) opened) ∷ snippets_with (next_line lines line) opened nexts more

  abbrev pub last_pieces : LastUnit → List CutPart
  last_pieces (JustText xs) = []
  last_pieces (OpenNotes text nexts xs) = cut_part text Opens ∷ snippets_with 0 text.end.place nexts []

  -- the parts of units, one after the other
  abbrev pub units_pieces : List BodyUnit → LastUnit → List CutPart
  units_pieces [] last = last_pieces last
  units_pieces (u ∷ units) last = cut_part u.text Opens ∷ snippets_with 0 u.text.end.place u.nexts (cut_part u.final Closes ∷ units_pieces units last)

  abbrev pub cutting_of : Units → Cutting
  cutting_of u = record { pieces = units_pieces u.closed u.last; last = last_characters u.last }

-- ---- the body

-- the characters before the first LF, and the units from it on, if there is one
pub record BodyCutting : Type 0 where
  pub comment : List Char
  pub units : Option Units

-- no character of the comment is an LF
abbrev pub NoLf : List Char → Type 0
NoLf [] = Unit
NoLf (x ∷ xs) = ((x.c == 10) ≡ false) × NoLf xs

abbrev pub BeginsWithLf : List Char → Type 0
BeginsWithLf [] = ⊥
BeginsWithLf (x ∷ xs) = (x.c == 10) ≡ true

-- the text that begins with the LF after the comment
abbrev pub first_text : Texts → List Char → PartAhead
first_text texts [] = InComment
first_text texts (x ∷ xs) = text_from texts x.place (x ∷ xs)

module _ (texts : Texts) (lines macros : ℕ) where
  -- these characters are a comment without an LF, and nothing, or parts from the first LF on
  abbrev pub IsCutFrom : List Char → List Char → Option Cutting → Type 0
  IsCutFrom xs comment None = (xs ≡ comment) × NoLf comment
  IsCutFrom xs comment (Some cut) =
      let ys = whole cut.pieces cut.last in
      (xs ≡ comment ++ ys) × (NoLf comment × (BeginsWithLf ys × Cuts texts lines macros (first_text texts ys) cut.pieces cut.last))

  -- a body of these characters has this cutting: the parts of its units are those of the body
  abbrev pub IsCut : List Char → BodyCutting → Type 0
  IsCut xs cut = IsCutFrom xs cut.comment (option_map (cutting_of lines) cut.units)

  abbrev pub events_of_parts : Option Cutting → List (List BodyEvent)
  events_of_parts None = events_at_end InComment ∷ []
  events_of_parts (Some cut) = events_of_cutting texts lines macros (first_text texts (whole cut.pieces cut.last)) cut.pieces cut.last

  -- the events of a body with this cutting: none for the comment, then those of each part through
  -- its end, and those of the last part
  abbrev pub events_of_body_cutting : BodyCutting → List (List BodyEvent)
  events_of_body_cutting cut = map (λ (x : Char). []) cut.comment ++ events_of_parts (option_map (cutting_of lines) cut.units)
