-- The reading that is gathered of a text.
use Rattle.std.specs.Prelude.{ℕ, List, [], ◌∷◌, ◌++◌, true, false, Some, None, encode_utf8, encode_utf8_all, reverse}
use Rattle.gabc_places.specs.declared.code.Finding.{Finding}
use Rattle.gabc_text.specs.TextView.{ViewContent}
use Rattle.gabc_text.specs.declared.text_event.TextPart.{TextPart}
use Rattle.gabc_text.specs.declared.text_event.TextPart.TheVariants as part
use Rattle.gabc_text.specs.declared.text_event.TextEnd.{TextEnd}
use Rattle.gabc_text.specs.declared.text_event.TextEnd.TheVariants as ending
use Rattle.gabc_text.specs.declared.text_event.TextEvent.{TextEvent}
use Rattle.gabc_text.specs.declared.text_event.TextEvent.TheVariants as out
use Rattle.gabc_places.specs.declared.place.Place.{Place}
use Rattle.gabc_places.specs.declared.place.Char.{Char}
use Rattle.gabc_text.specs.Token.{tokens}
use Rattle.gabc_text.specs.View.{kept, findings}
use Rattle.gabc_text.specs.Events.{end_after, after_tokens}
use Rattle.gabc_text.specs.TextRead.{view_in}

pub record BuiltText : Type 0 where
  pub kept : List ℕ
  pub view : ViewContent
  pub findings : List Finding
  pub end : TextEnd

-- an empty view
abbrev pub empty_view : ViewContent
empty_view = record { word_start = false; pieces = []; centre = None; translation = None }

abbrev pub with_part : ViewContent → TextPart → ViewContent
with_part v part.WordStart = record v { word_start = true }
with_part v (part.Piece p) = record v { pieces = v.pieces ++ p ∷ [] }
with_part v (part.Centre s) = record v { centre = Some s }
with_part v (part.Translation s) = record v { translation = Some s }

abbrev pub with_event : BuiltText → TextEvent → BuiltText
with_event t (out.Kept c) = record t { kept = t.kept ++ encode_utf8 c.c }
with_event t (out.Part p) = record t { view = with_part t.view p }
with_event t (out.Found f) = record t { findings = t.findings ++ f ∷ [] }
with_event t (out.Ended h) = record t { end = h }

abbrev pub with_events : BuiltText → List TextEvent → BuiltText
with_events t [] = t
with_events t (o ∷ os) = with_events (with_event t o) os

abbrev pub empty_text : BuiltText
empty_text = record { kept = []; view = empty_view; findings = []; end = ending.Finished }

-- the reading of a text whose first character is at this place
abbrev pub text_built_at : Place → List ℕ → BuiltText
text_built_at at t = record {
  kept = encode_utf8_all (kept t);
  view = view_in t;
  findings = findings at t;
  end = end_after at (reverse (tokens t)) (after_tokens t);
}

-- the characters that are kept, among the events
abbrev pub kept_in : List TextEvent → List ℕ
kept_in [] = []
kept_in (out.Kept c ∷ os) = c.c ∷ kept_in os
kept_in (o ∷ os) = kept_in os

-- the findings among the events
abbrev pub found_in : List TextEvent → List Finding
found_in [] = []
found_in (out.Found f ∷ os) = f ∷ found_in os
found_in (o ∷ os) = found_in os

-- the characters that are kept, among the events, each with its place
abbrev pub kept_chars_in : List TextEvent → List Char
kept_chars_in [] = []
kept_chars_in (out.Kept c ∷ os) = c ∷ kept_chars_in os
kept_chars_in (o ∷ os) = kept_chars_in os
