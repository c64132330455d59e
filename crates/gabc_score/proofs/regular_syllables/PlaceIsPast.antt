-- The place after a regular syllable, if no count of it reaches its last value.
use Rattle.std.proofs.Common.{◌≡◌, ℕ, ◌+◌, ◌-◌, ◌<◌, ◌^◌, min, List, [], ◌∷◌, ◌++◌, length, refl, sym, ap, subst, ◌∙◌, arith}
use Rattle.gabc_places.specs.declared.place.Place.{Place}
use Rattle.gabc_places.specs.declared.place.Char.{Char}
use Rattle.gabc_places.specs.Place.{next_place, place_past, placed_characters_from}
use Rattle.gabc_places.proofs.PlacesOfAText.{place_append}
use Rattle.gabc_text.specs.Events.{CountsFit}
use Rattle.gabc_body.specs.Events.{after_mark}
use Rattle.gabc_score.specs.RegularSyllable.{SyllableParts, notes_spelled, spelled, after_part, final_at, unit_at}
use Rattle.gabc_score.proofs.keeping.ReadByItself.{HasRoom, same_place, room_after}
use Rattle.gabc_score.proofs.regular_syllables.OneMore.{next_of}

placed_past : (at : Place) (t : List ℕ) → HasRoom at (length t) → next_of (placed_characters_from at t) at ≡ place_past at t
placed_past at [] h = refl
placed_past at (c ∷ t) h = grind (arith, placed_past (next_place at c) t (room_after at c (length t) h), same_place, room_after)

room_past : (at : Place) (t : List ℕ) (n : ℕ) → HasRoom at (length t + n) → HasRoom (place_past at t) n
room_past at [] n h = record { line = omega (arith, h.line); column = omega (arith, h.column) }
room_past at (c ∷ t) n h = room_past (next_place at c) t n (room_after at c (length t + n) (record { line = omega (arith, h.line); column = omega (arith, h.column) }))

-- after some characters the place does not depend on the one before
next_any : (us : List Char) (p q : Place) → 0 < length us → next_of us p ≡ next_of us q
next_any [] p q h = absurd (omega (arith, h))
next_any (x ∷ us) p q h = refl

-- the place after the last mark
notes_past : (at : Place) (nexts : List (List ℕ)) (final : List ℕ) → next_place (final_at at nexts final).end.place 41 ≡ place_past at (notes_spelled nexts final)
notes_past at [] final = sym (place_append at final (41 ∷ []))
notes_past at (s ∷ nexts) final = notes_past (after_part at s 124) nexts final ∙ sym (place_append at s (124 ∷ notes_spelled nexts final))

unit_past : (at : Place) (r : SyllableParts) → next_place (unit_at at r).final.end.place 41 ≡ place_past at (spelled r)
unit_past at r = notes_past (after_part at (r.gap ++ r.text) 40) r.nexts r.final ∙ sym (place_append at (r.gap ++ r.text) (40 ∷ notes_spelled r.nexts r.final))

module _ (at : Place) (r : SyllableParts) (fits : CountsFit at (spelled r)) where
  room : HasRoom at (length (spelled r))
  room = record { line = fits.line; column = fits.column }

  -- a text begins there
  pub mark_past : after_mark (unit_at at r).final.end.place ≡ place_past at (spelled r)
  mark_past =
      let p = (unit_at at r).final.end.place in
      let within = (room_past at (spelled r) 0 (subst (HasRoom at) (let e : length (spelled r) ≡ length (spelled r) + 0 = omega arith in e) room)).column in
      let same : p.column + 1 ≡ (place_past at (spelled r)).column = ap (λ (q : Place). q.column) (unit_past at r) in
      ap (λ (n : ℕ). record { line = p.line; column = n }) (let e : min (p.column + 1) (2 ^ 64 - 1) ≡ p.column + 1 = omega (arith, within, same) in e) ∙ unit_past at r

  -- and there the next character stands
  pub next_past : (next : Place) → 0 < length (placed_characters_from at (spelled r)) → next_of (placed_characters_from at (spelled r)) next ≡ place_past at (spelled r)
  next_past next some = next_any (placed_characters_from at (spelled r)) next at some ∙ placed_past at (spelled r) room
