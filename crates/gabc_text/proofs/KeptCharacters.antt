-- The characters that the events of a text keep.
use Rattle.std.proofs.Common.{◌≡◌, ℕ, ◌+◌, ◌<◌, ◌≤◌, List, [], ◌∷◌, ◌++◌, length, take, get_or, take_all, refl, sym, ap, ◌∙◌}
use Rattle.std.proofs.lemmas.List.{take_more}
use Rattle.gabc_places.specs.declared.place.Char.{Char}
use Rattle.gabc_places.specs.declared.place.Place.{Place}
use Rattle.gabc_places.specs.StageLaw.{concat_of}
use Rattle.gabc_places.specs.Place.{next_place, placed_characters_from}
use Rattle.gabc_text.specs.declared.text_event.TextEvent.{TextEvent}
use Rattle.gabc_text.specs.declared.text_event.TextEvent.TheVariants as out
use Rattle.gabc_text.specs.declared.stage.TextStage.{TextStage}
use Rattle.gabc_text.specs.Events.{CountsFit, codes_of, events_by_point}
use Rattle.gabc_text.specs.witness.EventsLeft.{events_left}
use Rattle.gabc_text.specs.BuiltText.{kept_chars_in, kept_in}
use Rattle.gabc_text.specs.View.{kept}
use Rattle.gabc_text.proofs.events.EventsByPointAreEvents.{points_joined}
use Rattle.gabc_text.proofs.events.EventsBuildText.{kept_whole}

pub kept_append : (a b : List TextEvent) → kept_chars_in (a ++ b) ≡ kept_chars_in a ++ kept_chars_in b
kept_append [] b = refl
kept_append (out.Kept c ∷ a) b = ap (λ (v : List Char). c ∷ v) (kept_append a b)
kept_append (_ ∷ a) b = kept_append a b

pub one_more : (events : List TextEvent) (i : ℕ) (was : List Char) (d : TextEvent) → i < length events → was ≡ kept_chars_in (take i events)
    → was ++ kept_chars_in (get_or events i d ∷ []) ≡ kept_chars_in (take (i + 1) events)
one_more events i was d less e =
    ap (λ (v : List Char). v ++ kept_chars_in (get_or events i d ∷ [])) e
    ∙ sym (kept_append (take i events) (get_or events i d ∷ []))
    ∙ ap kept_chars_in (sym (take_more events i d less))

pub codes_placed : (p : Place) (t : List ℕ) → codes_of (placed_characters_from p t) ≡ t
codes_placed p [] = refl
codes_placed p (c ∷ t) = ap (λ (v : List ℕ). c ∷ v) (codes_placed (next_place p c) t)

pub events_of : (at : Place) (t : List ℕ) (s : TextStage) → ((u : List ℕ) → CountsFit at u → events_left s u ≡ events_by_point at u) → CountsFit at t → events_left s (codes_of (placed_characters_from at t)) ≡ events_by_point at t
events_of at t s fresh_emits fits = ap (events_left s) (codes_placed at t) ∙ fresh_emits t fits

codes_kept : (events : List TextEvent) → codes_of (kept_chars_in events) ≡ kept_in events
codes_kept [] = refl
codes_kept (out.Kept c ∷ os) = ap (λ (v : List ℕ). c.c ∷ v) (codes_kept os)
codes_kept (_ ∷ os) = codes_kept os

pub kept_codes : (at : Place) (t : List ℕ) → codes_of (kept_chars_in (concat_of (events_by_point at t))) ≡ kept t
kept_codes at t = codes_kept (concat_of (events_by_point at t)) ∙ ap kept_in (points_joined at t) ∙ kept_whole at t

pub all_kept : (events : List TextEvent) (i : ℕ) (was : List Char) → length events ≤ i → was ≡ kept_chars_in (take i events) → was ≡ kept_chars_in events
all_kept events i was most e = e ∙ ap kept_chars_in (take_all i events most)
