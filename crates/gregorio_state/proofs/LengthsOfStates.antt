-- How long the bytes of a state are.
use Rattle.std.proofs.Common.{◌≡◌, ℕ, ◌+◌, ◌*◌, ◌-◌, ◌<◌, ◌≤◌, max, List, length, Option, Some, None, inl, inr, refl, ap, arith, length-append}
use Rattle.std.proofs.Math.Nat.{le-max_left, le-max_right}
use Rattle.std.proofs.lemmas.List.{length-drop, length-map}
use Rattle.std.proofs.lemmas.List.Concat.{length-flat_map}
use Rattle.std.specs.Int.{w16, w32, w64}
use Rattle.gabc_places.specs.Limits.{AreLimits}
use Rattle.gabc_places.specs.Put.{counted_with}
use Rattle.gabc_places.specs.declared.place.Place.{Place}
use Rattle.gabc_places.proofs.utf8.CharacterByCharacter.{partial_short}
use Rattle.gabc_neumes.specs.declared.sound.Clef.{Clef}
use Rattle.gregorio_state.specs.Fields.{StateFields, ScoreFields, PhaseFields, InHeaders, InScore}
use Rattle.gregorio_state.specs.StateBytes.{number_bytes, text_bytes, place_bytes, opener_bytes, clef_bytes, alter_number, score_parts, score_bytes, phase_bytes, state_parts, state_bytes}
use Rattle.gabc_headers.specs.HeldText.{IsWithinHeaders}
use Rattle.gregorio_state.specs.Conditions.{AreStateFields, ArePhaseFields}
use Rattle.gregorio_state.specs.machine.Lengths.{AreShort}

pub short_pending : (s : StateFields) → AreStateFields s → length s.pending < 4
short_pending s fits = partial_short s.pending fits.decoder.partial

within_length : (limit : ℕ) (t : List ℕ) → 64 ≤ limit → IsWithinHeaders limit t → length t ≤ limit + 1
within_length limit t least (inl h) = omega (arith, h)
within_length limit t least (inr e) = omega (arith, length-drop (limit - 1) t, ap (λ (u : List ℕ). length u) e)

phase_short : (s : StateFields) (p : PhaseFields) → AreLimits s.header_limit s.syllable_limit s.input_limit → ArePhaseFields s p → AreShort p
phase_short s (InHeaders t) limits fits = omega (arith, within_length s.header_limit t limits.header_least fits.within, limits.header_most)
phase_short s (InScore f) limits fits = (omega (arith, fits.held.short, limits.syllable_most), omega (arith, fits.kept_short, limits.syllable_most))

pub short_texts : (s : StateFields) → AreStateFields s → AreShort s.phase
short_texts s fits = phase_short s s.phase fits.limits fits.phase

-- ---- the length of each field

length_16 : (n : ℕ) → length (number_bytes w16 n) ≡ 2
unfolding number_bytes
length_16 n = refl

length_32 : (n : ℕ) → length (number_bytes w32 n) ≡ 4
unfolding number_bytes
length_32 n = refl

length_64 : (n : ℕ) → length (number_bytes w64 n) ≡ 8
unfolding number_bytes
length_64 n = refl

text_length : (t : List ℕ) → length (text_bytes t) ≡ 4 + length t
text_length t = omega (arith, length-append (number_bytes w32 (length t)) t, length_32 (length t))

place_length : (p : Place) → length (place_bytes p) ≡ 16
place_length p = omega (arith, length-append (number_bytes w64 p.line) (number_bytes w64 p.column), length_64 p.line, length_64 p.column)

opener_length : (p : Option Place) → length (opener_bytes p) ≡ 16
opener_length None = place_length (record { line = 0; column = 0 })
opener_length (Some p) = place_length p

clef_length : (c : Option Clef) → length (clef_bytes c) ≡ 3
clef_length c = grind arith

-- ---- the length of all

score_length : (f : ScoreFields) → length f.in_force.alters ≡ 15 → length (score_bytes f) ≡ 72 + length f.held + length f.kept
score_length f heights =
    omega (
      arith,
      length-flat_map (λ (part : List ℕ). part) (score_parts f),
      length_16 f.macros,
      length_32 f.syllables,
      length_32 f.canonical,
      clef_length f.in_force.clef,
      length-map f.in_force.alters alter_number,
      heights,
      text_length f.held,
      opener_length f.notes_opener,
      opener_length f.inner_opener,
      text_length f.kept,
    )

-- the most bytes that a phase has
phase_length : (s : StateFields) (p : PhaseFields) → AreLimits s.header_limit s.syllable_limit s.input_limit → ArePhaseFields s p → length (phase_bytes p) ≤ max s.header_limit (2 * s.syllable_limit) + 83
phase_length s (InHeaders t) limits fits =
    omega (arith, text_length t, within_length s.header_limit t limits.header_least fits.within, le-max_left s.header_limit (2 * s.syllable_limit))
phase_length s (InScore f) limits fits = grind (arith, score_length, le-max_right)

pub state_length : (s : StateFields) → AreStateFields s → length (state_bytes s) ≤ max s.header_limit (2 * s.syllable_limit) + 128
state_length s fits =
    omega (
      arith,
      length-flat_map (λ (part : List ℕ). part) (state_parts s),
      length_32 s.header_limit,
      length_32 s.syllable_limit,
      length_32 s.input_limit,
      length_32 s.taken,
      place_length s.place,
      short_pending s fits,
      phase_length s s.phase fits.limits fits.phase,
    )

-- n bytes are counted one by one
pub state_counted : (s : StateFields) → AreStateFields s → counted_with 0 (state_bytes s) ≡ length (state_bytes s)
state_counted s fits = omega (arith, state_length s fits, fits.limits.header_most, fits.limits.syllable_most)
