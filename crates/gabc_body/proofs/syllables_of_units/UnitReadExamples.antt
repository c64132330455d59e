-- Worked rows of the definitions of specs/UnitRead.antt and specs/SpansPast.antt: the texts ` <eu>b(h)` and LF `<eu>b(h)`, each by itself.
use Rattle.std.proofs.Common.{◌≡◌, ℕ, List, [], ◌∷◌, map, true, false, refl, codes}
use lib.Utf8.{encode}
use Rattle.gabc_places.specs.declared.place.Place.{Place}
use Rattle.gabc_places.specs.Place.{placed_characters_from}
use Rattle.gabc_text.specs.Canonical as texts
use Rattle.gabc_notes.specs.Events as notes
use Rattle.gabc_body.specs.Body.{events_onto}
use Rattle.gabc_body.specs.Canonical.{canonical}
use Rattle.gabc_body.specs.SpansPast.{eu_past, nlba_past}
use Rattle.gabc_body.specs.Syllable.{UnplacedSyllable, all_syllables, slice}
use Rattle.gabc_body.specs.UnitRead.{first_events}

abbrev at : Place
at = record { line = 3; column = 1 }

-- the syllables that the first characters of a text give, without NABC lines
abbrev given : List ℕ → ℕ → List UnplacedSyllable
given t n = all_syllables (events_onto (first_events 0 0 at (placed_characters_from at t) n) [])

-- the syllable comes with the `)`
before_last : given (codes " <eu>b(h)") 8 ≡ []
unfolding notes.note_events encode texts.listed_styles slice
before_last = refl

kept_texts : map (λ (m : UnplacedSyllable). m.kept) (given (codes " <eu>b(h)") 9) ≡ codes " <eu>b(h)" ∷ []
unfolding notes.note_events encode texts.listed_styles slice
kept_texts = refl

-- its canonical text gives the same
canonical_texts : map (λ (m : UnplacedSyllable). canonical m.text.word_start m) (given (codes " <eu>b(h)") 9) ≡ (10 ∷ codes "<eu>b(h)") ∷ []
unfolding notes.note_events encode texts.listed_styles slice
canonical_texts = refl

again : map (λ (m : UnplacedSyllable). canonical m.text.word_start m) (given (10 ∷ codes "<eu>b(h)") 9) ≡ (10 ∷ codes "<eu>b(h)") ∷ []
unfolding notes.note_events encode texts.listed_styles slice
again = refl

-- it opens one span, and leaves the other as it was
opened : map (λ (m : UnplacedSyllable). eu_past m false ∷ nlba_past m false ∷ nlba_past m true ∷ []) (given (codes " <eu>b(h)") 9) ≡ (true ∷ false ∷ true ∷ []) ∷ []
unfolding notes.note_events encode texts.listed_styles slice
opened = refl
