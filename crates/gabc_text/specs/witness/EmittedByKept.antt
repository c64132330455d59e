-- The outputs of a text, but for the parts of its view, by its kept text, whether a comment is
-- open, and the place of its opener.
use Rattle.std.specs.Prelude.{ℕ, List, [], ◌∷◌, ◌++◌, Bool, false, cond, not, ◌&&◌, ◌==◌, map, reverse, Some}
use Rattle.gabc_places.specs.Fate.{Fate, Keep, Ends, LeaveOut}
use Rattle.gabc_places.specs.Place.{next_place}
use Rattle.gabc_places.specs.declared.code.Finding.{Finding}
use Rattle.gabc_places.specs.declared.place.Char.{Char}
use Rattle.gabc_places.specs.declared.place.Place.{Place}
use Rattle.gabc_text.specs.declared.text_event.TextEnd.{TextEnd}
use Rattle.gabc_text.specs.declared.text_event.TextEnd.TheVariants.{Notes, Finished, Cut}
use Rattle.gabc_text.specs.declared.text_event.TextEvent.{TextEvent}
use Rattle.gabc_text.specs.BuiltText.{kept_chars_in, found_in}
use Rattle.gabc_text.specs.Ends.{ends_in}
use Rattle.gabc_text.specs.KeptText.{belongs, fate_in_text, kept_char, kept_after, codes_with}
use Rattle.gabc_text.specs.Token.{Token, tokens}
use Rattle.gabc_text.specs.View.{is_cut, codes_at_end, found_at}
use Rattle.gabc_text.specs.witness.TextByKept.{opens, ends}

-- the outputs of a character, or of the end: the kept characters, the findings, and how the text
-- ends
pub record Emitted : Type 0 where
  pub kept : List Char
  pub found : List Finding
  pub ends : List TextEnd

abbrev pub emitted : List TextEvent → Emitted
emitted events = record { kept = kept_chars_in events; found = found_in events; ends = ends_in events }

abbrev pub nothing : Emitted
nothing = record { kept = []; found = []; ends = [] }

-- the kept text so far, whether a comment is open, and the place of the opener
pub record TextState : Type 0 where
  pub kept : List ℕ
  pub comment : Bool
  pub inner : Place

abbrev pub before_it : TextState → List Token
before_it s = reverse (tokens s.kept)

-- the place of the opener with a character: its own, if it belongs to nothing before it
abbrev pub inner_with : TextState → Char → Place
inner_with s x = cond (belongs (before_it s) x.c) s.inner x.place

abbrev pub emitted_by : Fate → TextState → Char → Emitted
emitted_by Keep s x =
    let c = kept_char (before_it s) x.c in
    record {
      kept = record { c = c; place = x.place } ∷ [];
      found = map (found_at (inner_with s x)) (codes_with (reverse (tokens (s.kept ++ c ∷ []))));
      ends = [];
    }
emitted_by Ends s x = record { kept = []; found = map (found_at x.place) (codes_at_end (before_it s)); ends = Notes ∷ [] }
emitted_by (LeaveOut (Some code)) s x = record { kept = []; found = found_at x.place code ∷ []; ends = [] }
emitted_by _ s x = nothing

abbrev pub state_with : TextState → Char → TextState
state_with s x = record {
  kept = s.kept ++ kept_after (before_it s) x.c;
  comment = opens (fate_in_text (before_it s) x.c);
  inner = inner_with s x;
}

abbrev pub emitted_at_end : TextState → Place → Emitted
emitted_at_end s here = record {
  kept = [];
  found = cond (is_cut (before_it s)) [] (map (found_at here) (codes_at_end (before_it s)));
  ends = cond (is_cut (before_it s)) (Cut s.inner) Finished ∷ [];
}

-- The outputs of each of these characters, the first of which is at this place, and of the end. A
-- comment continues up to an LF.
abbrev pub emitted_past : TextState → Place → List ℕ → List Emitted
emitted_past s here [] = emitted_at_end s here ∷ []
emitted_past s here (c ∷ t) =
    let x : Char = record { c = c; place = here } in
    let fate = fate_in_text (before_it s) c in
    cond (s.comment && not (c == 10)) (nothing ∷ emitted_past s (next_place here c) t)
    (emitted_by fate s x ∷ cond (ends fate) (map (λ _. nothing) (c ∷ t)) (emitted_past (state_with s x) (next_place here c) t))

abbrev pub text_begins : TextState
text_begins = record { kept = []; comment = false; inner = record { line = 0; column = 0 } }
