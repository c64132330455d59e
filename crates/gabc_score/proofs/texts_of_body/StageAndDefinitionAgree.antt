-- Texts as their machine reads them and by their definition are the same, if no count of a body
-- reaches its last value.
use Rattle.std.proofs.Common.{◌≡◌, ℕ, ◌+◌, ◌<◌, ◌^◌, ◌==◌, if◌then◌else◌, List, [], ◌∷◌, length, refl, ap, arith, IsUtf8, ◌≤◌}
use Rattle.std.specs.Str.{chars}
use Rattle.std.proofs.lemmas.Str.{encodes-chars, length-le-encodes}
use Rattle.gabc_text.proofs.KeptCharacters.{codes_placed}
use Rattle.gabc_places.specs.declared.place.Place.{Place}
use Rattle.gabc_places.specs.declared.place.Char.{Char}
use Rattle.gabc_places.specs.Place.{next_place, placed_characters_from}
use Rattle.gabc_text.specs.declared.text_event.TextEvent.{TextEvent}
use Rattle.gabc_text.specs.Events.{CountsFit, events_by_point}
use Rattle.gabc_text.specs.witness.EventsLeft.{events_left}
use Rattle.gabc_text.specs.TextStage.{fresh_stage}
use Rattle.gabc_body.specs.Events.{PartAhead, InComment, InText, after_mark, part_at, part_after_character, events_from, texts_by_definition}
use Rattle.gabc_score.specs.witness.BodyStage.{texts_by_stage}
use Rattle.gabc_body.proofs.texts_of_body.BodyFits.{fits_next, bytes_encodes}

fits_after : (at : Place) (c : ℕ) (t : List ℕ) → CountsFit at (c ∷ t) → CountsFit (after_mark at) t
fits_after at c t f = record { line = omega (arith, f.line); column = omega (arith, f.column); bytes = omega (arith, f.bytes) }

-- a body fits after a prefix if the bytes of both are few, and the place after the prefix counts no
-- more than the prefix has
pub fits_after_prefix : (at : Place) (prefix bytes : List ℕ) → IsUtf8 bytes → at.line ≤ 1 + length prefix → at.column ≤ 1 + length prefix
    → length prefix + length bytes < 2 ^ 63 → CountsFit at (chars bytes)
fits_after_prefix at prefix bytes utf8 line column few = grind (arith, encodes-chars, length-le-encodes, bytes_encodes)

module _ (step : (at : Place) (t : List ℕ) → CountsFit at t → events_left (fresh_stage at) t ≡ events_by_point at t) (lines macros : ℕ) where
  pub same_texts : (at from : Place) (t : List ℕ) → CountsFit at t → texts_by_stage at (placed_characters_from from t) ≡ texts_by_definition at (placed_characters_from from t)
  same_texts at from t f = rw (codes_placed from t) (step at t f)

  same_standing : (at : Place) (c : ℕ) (t : List ℕ) (part : PartAhead) → CountsFit at (c ∷ t)
      → part_at texts_by_stage part (record { c = c; place = at }) (placed_characters_from (next_place at c) t)
      ≡ part_at texts_by_definition part (record { c = c; place = at }) (placed_characters_from (next_place at c) t)
  same_standing at c t InComment f = ap (λ (lists : List (List TextEvent)). if c == 10 then InText lists else InComment) (same_texts at at (c ∷ t) f)
  same_standing at c t _ f = refl

  same_after : (at : Place) (c : ℕ) (t : List ℕ) (part : PartAhead) → CountsFit at (c ∷ t)
      → part_after_character texts_by_stage lines macros part (record { c = c; place = at }) (placed_characters_from (next_place at c) t)
      ≡ part_after_character texts_by_definition lines macros part (record { c = c; place = at }) (placed_characters_from (next_place at c) t)
  same_after at c t part f = grind (arith, same_texts, fits_after)

  pub same_emitted : (at : Place) (t : List ℕ) (part : PartAhead) → CountsFit at t
      → events_from texts_by_stage lines macros part (placed_characters_from at t) ≡ events_from texts_by_definition lines macros part (placed_characters_from at t)
  same_emitted at [] part f = refl
  same_emitted at (c ∷ t) part f =
      let x : Char = record { c = c; place = at } in
      let xs = placed_characters_from (next_place at c) t in
      let here = part_at texts_by_definition part x xs in
      rw (same_standing at c t part f, same_after at c t here f, same_emitted (next_place at c) t (part_after_character texts_by_definition lines macros here x xs) (fits_next at c t f)) refl
