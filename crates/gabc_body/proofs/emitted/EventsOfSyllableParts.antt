-- What is emitted of the parts of a syllable, one thing after the other.
use Rattle.std.proofs.Common.{◌≡◌, ℕ, List, [], ◌∷◌, ◌++◌, map, refl, sym, ap, ◌∙◌, append_assoc, append-nil, arith}
use lib.Utf8.{encode, encodes}
use Rattle.gabc_places.specs.declared.place.Place.{Place}
use Rattle.gabc_text.specs.TextView.{ViewContent}
use Rattle.gabc_text.specs.declared.text_event.TextEvent.{TextEvent}
use Rattle.gabc_text.specs.declared.text_event.TextEvent.TheVariants as text
use Rattle.gabc_text.specs.BuiltText.{BuiltText as Gathered, with_events, with_event, with_part}
use Rattle.gabc_text.specs.Ends.{ends_in}
use Rattle.gabc_notes.specs.declared.stage.NoteEvent.{NoteEvent}
use Rattle.gabc_notes.specs.declared.stage.NoteEvent.TheVariants as note
use Rattle.gabc_notes.specs.SnippetRead.{kept_of as kept_in_notes, ends_of}
use Rattle.gabc_body.specs.declared.events.BodyEvent.{BodyEvent}
use Rattle.gabc_body.specs.declared.events.BodyEvent.TheVariants.{Text, Notes}
use Rattle.gabc_body.specs.declared.snippets.Snippet.{Snippet}
use Rattle.gabc_body.specs.Syllable.{since_close, all_syllables, view_of, ended_parts_of, part_of, snippets_of}
use Rattle.gabc_body.specs.Body.{events_onto}
use Rattle.gabc_body.specs.Events.{note_event}
use Rattle.gabc_body.specs.witness.TextEvents.{text_events}

pub onto_append : (xs ys before : List BodyEvent) → events_onto (xs ++ ys) before ≡ events_onto ys (events_onto xs before)
onto_append [] ys before = refl
onto_append (x ∷ xs) ys before = onto_append xs ys (x ∷ before)

-- what the events of a syllable come to
pub record Sum : Type 0 where
  pub view : ViewContent
  pub ended : List ℕ
  pub part : List ℕ
  pub snippets : List Snippet

abbrev pub sum_of : List BodyEvent → Sum
sum_of events = record { view = view_of events; ended = ended_parts_of events; part = part_of events; snippets = snippets_of events }

abbrev pub keeping : List ℕ → Sum → Sum
keeping more s = record s { part = s.part ++ more }

-- what is emitted within a part ends no syllable, and the syllables that were made stay
pub record AreInPart (before after : List BodyEvent) (now : List BodyEvent) : Type 0 where
  pub since : since_close after ≡ events_onto now (since_close before)
  pub made : all_syllables after ≡ all_syllables before

-- ---- notes

-- the events of a snippet before its end only keep characters
pub notes_keep : (line : ℕ) (opened : Place) (lists : List NoteEvent) (events : List BodyEvent) → ends_of lists ≡ []
    → sum_of (events_onto (map (note_event line opened) lists) events) ≡ keeping (encodes (kept_in_notes lists)) (sum_of events)
notes_keep line opened [] events h = ap (λ p. record (sum_of events) { part = p }) (sym (append-nil (part_of events)))
notes_keep line opened (note.Kept x ∷ lists) events h =
    notes_keep line opened lists (Notes line (note.Kept x) ∷ events) h
    ∙ ap (λ p. record (sum_of events) { part = p }) (append_assoc (part_of events) (encode x.c) (encodes (kept_in_notes lists)))
notes_keep line opened (note.Found f ∷ lists) events h = notes_keep line opened lists (Notes line (note.Found f) ∷ events) h
notes_keep line opened (note.Ended how n ∷ lists) events h = cc

pub notes_within : (line : ℕ) (opened : Place) (lists : List NoteEvent) (before : List BodyEvent) → ends_of lists ≡ []
    → AreInPart before (events_onto (map (note_event line opened) lists) before) (map (note_event line opened) lists)
notes_within line opened [] before h = record { since = refl; made = refl }
notes_within line opened (note.Ended how n ∷ lists) before h = cc
notes_within line opened (e ∷ lists) before h =
    let on = notes_within line opened lists (note_event line opened e ∷ before) h in record { since = on.since; made = on.made }

-- ---- texts

-- the events of a text before its end are gathered as the text's own definition gathers them
pub text_gathers : (lists : List TextEvent) (events : List BodyEvent) (g : Gathered) → ends_in lists ≡ [] → g.kept ≡ part_of events → g.view ≡ view_of events
    → sum_of (events_onto (text_events lists) events) ≡ record (sum_of events) { part = (with_events g lists).kept; view = (with_events g lists).view }
text_gathers [] events g h k v = ap (λ p. record (sum_of events) { part = p }) (sym k) ∙ ap (λ w. record (sum_of events) { part = g.kept; view = w }) (sym v)
text_gathers (text.Kept x ∷ lists) events g h k v = text_gathers lists (Text (text.Kept x) ∷ events) (with_event g (text.Kept x)) h (ap (λ p. p ++ encode x.c) k) v
text_gathers (text.Part p ∷ lists) events g h k v = text_gathers lists (Text (text.Part p) ∷ events) (with_event g (text.Part p)) h k (ap (λ w. with_part w p) v)
text_gathers (text.Found f ∷ lists) events g h k v = text_gathers lists (Text (text.Found f) ∷ events) (with_event g (text.Found f)) h k v
text_gathers (text.Ended how ∷ lists) events g h k v = cc

pub text_within : (lists : List TextEvent) (before : List BodyEvent) → AreInPart before (events_onto (text_events lists) before) (text_events lists)
text_within [] before = record { since = refl; made = refl }
text_within (o ∷ lists) before = grind (arith, text_within lists (Text o ∷ before))
