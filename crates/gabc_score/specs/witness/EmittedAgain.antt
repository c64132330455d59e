-- The kept text of a syllable that is not whole, read alone, by all events of its characters. It is
-- no promise: that it is the definition of `specs/KeptAgain.antt` is proved.
use Rattle.std.specs.Prelude.{◌≡◌, ℕ, List, [], ◌∷◌, ◌++◌, length, take, drop, Bool, true, false, not, ◌&&◌, ◌==◌, if◌then◌else◌, Option, Some, None, is_some, encode_utf8_all}
use Rattle.std.specs.List.{list_any}
use Rattle.gabc_places.specs.declared.place.Char.{Char}
use Rattle.gabc_places.specs.declared.place.Place.{Place}
use Rattle.gabc_places.specs.Place.{placed_characters_from}
use Rattle.gabc_places.specs.StageLaw.{concat_of}
use Rattle.gabc_text.specs.declared.text_event.TextEnd.TheVariants.{Notes}
use Rattle.gabc_text.specs.declared.text_event.TextEvent.TheVariants as text
use Rattle.gabc_score.specs.declared.body_tells.Openers.{Openers}
use Rattle.gabc_body.specs.declared.events.BodyEvent.{BodyEvent}
use Rattle.gabc_body.specs.declared.events.BodyEvent.TheVariants as event
use Rattle.gabc_body.specs.Body.{cut_of, events_onto}
use Rattle.gabc_body.specs.Events.{events_from, text_from, texts_by_definition}
use Rattle.gabc_body.specs.ScoreEvents.{first_place}
use Rattle.gabc_body.specs.Syllable.{all_syllables, kept_of}

-- the `(` that ends a text
abbrev pub opens : BodyEvent → Bool
opens (event.Text (text.Ended Notes)) = true
opens _ = false

-- the place of this `(`, if there is one; the lists are the events of the characters
abbrev pub notes_at : List Char → List (List BodyEvent) → Option Place
notes_at [] lists = None
notes_at (x ∷ xs) [] = None
notes_at (x ∷ xs) (now ∷ lists) = if list_any opens now then Some x.place else notes_at xs lists

-- the end cuts, and at another place than this `(`
abbrev pub is_other : Option Place → Option Place → Bool
is_other (Some p) (Some q) = not (p.line == q.line && p.column == q.column)
is_other (Some p) None = true
is_other None q = false

module _ (lines macros : ℕ) (t : List ℕ) where
  -- the characters of the text, the first of which is at 1:1
  abbrev pub placed : List Char
  placed = placed_characters_from first_place t

  -- their events: a list for each of them, and one for the end
  abbrev pub lists : List (List BodyEvent)
  lists = events_from texts_by_definition lines macros (text_from texts_by_definition first_place placed) placed

  -- their events before the end, the nearest first
  abbrev pub emitted : List BodyEvent
  emitted = events_onto (concat_of (take (length t) lists)) []

  -- a `(` has ended the text
  abbrev pub is_in_notes : Bool
  is_in_notes = is_some (notes_at placed lists)

  -- a tag, a raw part, a translation or a raw bracket is open
  abbrev pub is_inside : Bool
  is_inside = is_other (cut_of (concat_of (drop (length t) lists))) (notes_at placed lists)

-- Read alone the text keeps all its characters, and no syllable is whole. A comment is open after
-- it only if a `%` there is not kept. The openers say what else is open, at whatever places.
pub record IsEmittedAgain (lines macros : ℕ) (t : List ℕ) (openers : Openers) (comment : Bool) : Type 0 where
  pub kept : kept_of (emitted lines macros t) ≡ encode_utf8_all t
  pub none : all_syllables (emitted lines macros t) ≡ []
  pub percent : comment ≡ true → kept_of (emitted lines macros (t ++ 37 ∷ [])) ≡ encode_utf8_all t
  pub notes : is_some openers.notes ≡ is_in_notes lines macros t
  pub inner : is_some openers.inner ≡ is_inside lines macros t
