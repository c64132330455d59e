-- The lists of a text, by its kept text: the kept characters, the findings and the end of each
-- list, and when the parts of the view come.
use Rattle.std.specs.Prelude.{◌≡◌, ◌≤◌, ℕ, List, [], ◌∷◌, ◌++◌, Bool, true, false, not, ◌&&◌, ◌==◌, length, reverse, encode_utf8_all, Some, None}
use Rattle.std.specs.List.{list_any}
use Rattle.gabc_places.specs.Fate.{Fate, Keep, Comment, Ends, LeaveOut}
use Rattle.gabc_places.specs.Place.{placed_characters_from, place_past}
use Rattle.gabc_places.specs.declared.code.Finding.{Finding}
use Rattle.gabc_places.specs.declared.place.Char.{Char}
use Rattle.gabc_places.specs.declared.place.Place.{Place}
use Rattle.gabc_text.specs.TextView.{ViewContent}
use Rattle.gabc_text.specs.Token.{tokens}
use Rattle.gabc_text.specs.View.{codes_at_end, is_cut}
use Rattle.gabc_text.specs.BuiltText.{with_part, empty_view, kept_in, found_in}
use Rattle.gabc_text.specs.Events.{CountsFit, events_by_point}
use Rattle.gabc_text.specs.KeptText.{view_of_kept}
use Rattle.gabc_text.specs.declared.text_event.TextEnd.{TextEnd}
use Rattle.gabc_text.specs.declared.text_event.TextEnd.TheVariants as ending
use Rattle.gabc_text.specs.declared.text_event.TextEvent.{TextEvent}
use Rattle.gabc_text.specs.declared.text_event.TextEvent.TheVariants as out
use Rattle.gabc_text.specs.declared.text_event.TextPart.TheVariants as part
use Rattle.gabc_body.specs.Events.{first_list, other_lists}
use Rattle.gabc_body.specs.Reading.{InText, no_place, found_at, fate_by, kept_as, inner_by, found_by}

abbrev pub is_end : TextEvent → Bool
is_end (out.Ended how) = true
is_end o = false

-- the view, with the parts among the events
abbrev pub view_past : ViewContent → List TextEvent → ViewContent
view_past view [] = view
view_past view (out.Part p ∷ os) = view_past (with_part view p) os
view_past view (o ∷ os) = view_past view os

-- a piece is emitted when all of it is kept
abbrev pub PiecesStand : List ℕ → List TextEvent → Type 0
PiecesStand kept [] = Unit {0}
PiecesStand kept (out.Kept c ∷ os) = PiecesStand (kept ++ c.c ∷ []) os
PiecesStand kept (out.Part (part.Piece p) ∷ os) = (p.span.to ≤ length (encode_utf8_all kept)) × PiecesStand kept os
PiecesStand kept (o ∷ os) = PiecesStand kept os

-- after the text `kept` these events keep `more`, have these findings, and end nothing
pub record Says (kept more : List ℕ) (found : List Finding) (now : List TextEvent) : Type 0 where
  pub goes_on : list_any is_end now ≡ false
  pub keeps : kept_in now ≡ more
  pub finds : found_in now ≡ found
  pub stand : PiecesStand kept now

-- these events end a text with this kept text, and this view so far: the view is then that of the
-- kept text
pub record SaysEnd (kept : List ℕ) (found : List Finding) (how : TextEnd) (view : ViewContent) (now : List TextEvent) : Type 0 where
  pub front : List TextEvent
  pub ends : now ≡ front ++ out.Ended how ∷ []
  pub says : Says kept [] found front
  pub view_is : view_past view front ≡ view_of_kept kept

-- the kept text of a text, the place of its opener, whether a comment is open, and its view so far,
-- with the lists to come
abbrev pub TextGoes : Type 1
TextGoes = List ℕ → Place → Bool → ViewContent → List (List TextEvent) → Type 0

-- the first list says this, and `later` holds of the others
abbrev pub GoesPast : TextGoes → List ℕ → List ℕ → List Finding → Place → Bool → ViewContent → List (List TextEvent) → Type 0
GoesPast later kept more found inner comment view lists =
    Says kept more found (first_list lists) × later (kept ++ more) inner comment (view_past view (first_list lists)) (other_lists lists)

abbrev pub GoesBy : TextGoes → Fate → Char → List ℕ → Place → ViewContent → List (List TextEvent) → Type 0
GoesBy later Keep x kept inner view lists = GoesPast later kept (kept_as InText kept x.c ∷ []) (found_by 0 InText kept inner x) (inner_by InText kept inner x) false view lists
GoesBy later Comment x kept inner view lists = GoesPast later kept [] [] inner true view lists
GoesBy later (LeaveOut None) x kept inner view lists = GoesPast later kept [] [] inner false view lists
GoesBy later (LeaveOut (Some code)) x kept inner view lists = GoesPast later kept [] (found_at (code ∷ []) x.place) inner false view lists
GoesBy later Ends x kept inner view lists = SaysEnd kept (found_at (codes_at_end (reverse (tokens kept))) x.place) ending.Notes view (first_list lists)

-- a comment continues, or ends
abbrev pub GoesIn : Bool → TextGoes → Char → List ℕ → Place → ViewContent → List (List TextEvent) → Type 0
GoesIn true later x kept inner view lists = GoesPast later kept [] [] inner true view lists
GoesIn false later x kept inner view lists = GoesBy later (fate_by 0 InText kept x.c) x kept inner view lists

abbrev pub EndsBy : Bool → Place → List ℕ → Place → ViewContent → List TextEvent → Type 0
EndsBy true here kept inner view now = SaysEnd kept [] (ending.Cut inner) view now
EndsBy false here kept inner view now = SaysEnd kept (found_at (codes_at_end (reverse (tokens kept))) here) ending.Finished view now

-- The lists of a text with these characters to come, whose end is at this place.
abbrev pub GoesByKept : Place → List Char → TextGoes
GoesByKept here [] kept inner comment view lists = EndsBy (is_cut (reverse (tokens kept))) here kept inner view (first_list lists)
GoesByKept here (x ∷ xs) kept inner comment view lists = GoesIn (comment && not (x.c == 10)) (GoesByKept here xs) x kept inner view lists

-- the lists of every text are so, if no count of it reaches its last value
abbrev pub TextsGoByKept : Type 0
TextsGoByKept = (at : Place) (t : List ℕ) → CountsFit at t → GoesByKept (place_past at t) (placed_characters_from at t) [] no_place false empty_view (events_by_point at t)
