-- The bytes of a state are read as its fields.
use Rattle.std.proofs.Common.{◌≡◌, ℕ, ◌^◌, ◌<◌, List, [], ◌∷◌, ◌++◌, length, map, Option, Some, refl, sym, ap, ◌∙◌, arith}
use Rattle.std.proofs.lemmas.List.{append-nil}
use Rattle.std.specs.Int.{w32}
use Rattle.std.specs.Prelude.{IfSome}
use Rattle.gabc_places.specs.DecoderMachine.{IsReached}
use Rattle.gabc_places.specs.declared.place.Place.{Place}
use Rattle.gregorio_state.specs.Fields.{StateFields, ScoreFields, PhaseFields}
use Rattle.gregorio_state.specs.StateBytes.{number_bytes, flag_bytes, text_bytes, place_bytes, opener_bytes, spans_number, format_number, clef_bytes, alter_number, score_bytes, phase_bytes, state_bytes}
use Rattle.gabc_places.specs.PlacesInOrder.{LiesBefore}
use Rattle.gregorio_state.specs.Conditions.{AreScoreFields, ArePhaseFields, AreStateFields}
use Rattle.gregorio_state.specs.machine.Lengths.{AreShort}
use Rattle.gregorio_state.specs.machine.Reading.{score_of_bytes, phase_of_bytes, state_of_bytes}
use Rattle.gregorio_state.proofs.FieldsAreRead.{again_16, again_32, flag_again, format_again, spans_again, text_again, end_again, pending_again, place_again, FitsPlace, opener_again, clef_again, alters_again, tag_again, limits_again}
use Rattle.gregorio_state.proofs.LengthsOfStates.{short_texts}

fits_before : (next p : Place) → next.line < 2 ^ 64 → LiesBefore next p → FitsPlace p
fits_before next p lt b = grind arith

opener_fits : (next : Place) (p : Option Place) → next.line < 2 ^ 64 → IfSome p (LiesBefore next) → IfSome p FitsPlace
opener_fits next p lt h = grind (arith, fits_before)

score_again : (s : StateFields) (f : ScoreFields) → s.taken < 2 ^ 32 → s.place.line < 2 ^ 64 → s.input_limit < 2 ^ 32 → s.syllable_limit < 2 ^ 32 → AreScoreFields s f → score_of_bytes (score_bytes f) ≡ Some f
unfolding score_of_bytes
score_again s f taken line input syllable fits =
    let kept = text_bytes f.kept ++ [] in
    let inner = opener_bytes f.inner_opener ++ kept in
    let notes = opener_bytes f.notes_opener ++ inner in
    let comment = flag_bytes f.in_comment ++ notes in
    let held = text_bytes f.held ++ comment in
    let alters = map alter_number f.in_force.alters ++ held in
    let clef = clef_bytes f.in_force.clef ++ alters in
    let sounded = flag_bytes f.sounded ++ clef in
    let spans = spans_number f.in_eu f.in_nlba ∷ sounded in
    let canonical = number_bytes w32 f.canonical ++ spans in
    let syllables = number_bytes w32 f.syllables ++ canonical in
    rw (
      again_16 f.macros syllables (omega (arith, fits.counts.macros)),
      again_32 f.syllables canonical (omega (arith, fits.counts.syllables, taken)),
      again_32 f.canonical spans (omega (arith, fits.counts.below, input)),
      spans_again f.in_eu f.in_nlba sounded,
      flag_again f.sounded clef,
      clef_again f.in_force.clef alters,
      alters_again f.in_force.alters held fits.before.heights,
      text_again f.held comment fits.held.is_text.utf8 (omega (arith, fits.held.short, syllable)),
      flag_again f.in_comment notes,
      opener_again f.notes_opener inner (opener_fits s.place f.notes_opener line fits.openers.notes),
      opener_again f.inner_opener kept (opener_fits s.place f.inner_opener line fits.openers.inner),
      end_again f.kept fits.kept.utf8 (omega (arith, fits.kept_short, syllable)),
    )
    refl

phase_again : (s : StateFields) (p : PhaseFields) → s.taken < 2 ^ 32 → s.place.line < 2 ^ 64 → s.input_limit < 2 ^ 32 → s.syllable_limit < 2 ^ 32 → AreShort p → ArePhaseFields s p → phase_of_bytes (phase_bytes p ++ []) ≡ Some p
phase_again s p taken line input syllable short fits = grind (arith, end_again, append-nil, score_again)

-- the numbers of a decoder are below 2 ^ 64
place_fits : (s : StateFields) → s.taken < 2 ^ 32 → IsReached s.place (length s.pending) s.taken → (s.place.line < 2 ^ 64) × (s.place.column < 2 ^ 64)
place_fits s taken r = (omega (arith, r.bytes, taken), omega (arith, r.bytes, taken))

pub state_again : (s : StateFields) → AreStateFields s → state_of_bytes (state_bytes s) ≡ Some s
unfolding state_of_bytes
state_again s fits =
    let phase = phase_bytes s.phase ++ [] in
    let error = flag_bytes s.has_error ++ phase in
    let cr = flag_bytes s.after_cr ++ error in
    let pending = length s.pending ∷ (s.pending ++ cr) in
    let place = place_bytes s.place ++ pending in
    let taken = number_bytes w32 s.taken ++ place in
    let limits = number_bytes w32 s.header_limit ++ (number_bytes w32 s.syllable_limit ++ (number_bytes w32 s.input_limit ++ taken)) in
    let warnings = flag_bytes s.all_warnings ++ limits in
    let format = format_number s.format ∷ warnings in
    let few : s.taken < 2 ^ 32 = omega (arith, fits.decoder.within, fits.limits.input_most) in
    let at = place_fits s few fits.decoder.reached in
    rw (
      tag_again format,
      format_again s.format warnings,
      flag_again s.all_warnings limits,
      limits_again s.header_limit s.syllable_limit s.input_limit taken fits.limits,
      again_32 s.taken place few,
      place_again s.place pending at.0 at.1,
      pending_again s.pending cr,
      flag_again s.after_cr error,
      flag_again s.has_error phase,
      phase_again s s.phase few at.0 (omega (arith, fits.limits.input_most)) (omega (arith, fits.limits.syllable_most)) (short_texts s fits) fits.phase,
    )
    refl

-- what is read of the bytes of possible fields is these fields
pub read_again : (bytes : List ℕ) (r : Option StateFields) (s : StateFields) → state_of_bytes bytes ≡ r → AreStateFields s → bytes ≡ state_bytes s → r ≡ Some s
read_again bytes r s read fits e = sym read ∙ ap state_of_bytes e ∙ state_again s fits
