-- What is collected of a text stays what it is as the text grows.
use Rattle.std.proofs.Common.{◌≡◌, ℕ, List, [], ◌∷◌, ◌++◌, true, refl, ap, ◌∙◌, append-nil, arith}
use lib.Utf8.{encodes, scalars}
use Rattle.gabc_places.specs.declared.place.Span.{Span}
use Rattle.gabc_headers.specs.machine.Collected.{Collected}
use Rattle.gabc_headers.specs.declared.events.HeaderEvent.{HeaderEvent}
use Rattle.gabc_headers.specs.declared.events.HeaderEvent.TheVariants.{LeftOut, Header}
use Rattle.gabc_headers.specs.Parts.{HeaderPart, left_out, header, unended}
use Rattle.gabc_headers.specs.Entries.{text_at}
use Rattle.gabc_headers.specs.machine.Collected.{collected_with, collected_with_all, found_with}
use Rattle.gabc_headers.specs.machine.Events.{SpanHolds, IsEventOf, AreEventsOf}
use Rattle.gabc_places.proofs.texts.CharactersOfStrings.{scalars_split}
use Rattle.gabc_headers.proofs.collecting.EventsAddEntries.{holds_within}
use Rattle.gabc_headers.proofs.entries.TextsGoOn.{shown_at-append}
use Rattle.std.proofs.lemmas.Str.{encodes-append}

same_text_at : (t xs v : List ℕ) (s : Span) → scalars (t ++ xs) ≡ true → SpanHolds t s v → text_at (encodes (t ++ xs)) s ≡ text_at (encodes t) s
same_text_at t xs v s u h = ap (λ (x : List ℕ). text_at x s) (encodes-append t xs) ∙ shown_at-append (encodes t) (encodes xs) s (holds_within t v s (scalars_split t xs u).0 h)

-- one event
grown_with : (t xs : List ℕ) (e : HeaderEvent) (p : HeaderPart) (c : Collected) → scalars (t ++ xs) ≡ true → IsEventOf t e p → collected_with (encodes (t ++ xs)) e c ≡ collected_with (encodes t) e c
grown_with t xs (LeftOut k p) part c u h = refl
grown_with t xs (Header k a b p) (left_out j q) c u h = absurd h
grown_with t xs (Header k a b p) (unended j) c u h = absurd h
grown_with t xs (Header k a b p) (header j n v q) c u h = rw (same_text_at t xs n a u h.1, same_text_at t xs v b u h.2) refl

-- all of them
pub grown : (t xs : List ℕ) (es : List HeaderEvent) (ps : List HeaderPart) (c : Collected) → scalars (t ++ xs) ≡ true → AreEventsOf t es ps
    → collected_with_all (encodes (t ++ xs)) es c ≡ collected_with_all (encodes t) es c
grown t xs [] ps c u h = refl
grown t xs (e ∷ es) [] c u h = absurd h
grown t xs (e ∷ es) (p ∷ ps) c u h = grind (arith, grown t xs es ps (collected_with (encodes t) e c) u h.1, grown_with)

-- the last event
pub with_last : (text : List ℕ) (es : List HeaderEvent) (e : HeaderEvent) (c : Collected) → collected_with_all text (es ++ e ∷ []) c ≡ collected_with text e (collected_with_all text es c)
with_last text [] e c = refl
with_last text (d ∷ es) e c = with_last text es e (collected_with text d c)

-- what is found at an event stands after what was found
pub found_after : (text : List ℕ) (e : HeaderEvent) (c : Collected) → (collected_with text e c).findings ≡ c.findings ++ found_with text e c
found_after text e c = grind (arith, append-nil)
