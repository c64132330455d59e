-- What an engine that runs saves are fields that may be those of a state.
use Rattle.std.proofs.Common.{◌≡◌, ℕ, ◌+◌, ◌<◌, ◌≤◌, List, [], ◌∷◌, ◌++◌, length, encode_utf8, encode_utf8_all, Bool, true, is_some, Option, Some, None, IfSome, ap, sym, subst, ◌∙◌, arith}
use Rattle.std.specs.List.{All}
use Rattle.std.specs.Str.{chars}
use Rattle.std.proofs.lemmas.List.Elements.{All-cons, All-head, All-tail}
use Rattle.std.proofs.lemmas.Str.{IsUtf8-append, IsUtf8-encode, chars-append}
use Rattle.gabc_places.specs.TextOfAnInput.{IsPlain, IsText, IsTextCharacter}
use Rattle.gabc_places.specs.declared.limits.Limits.{Limits}
use Rattle.gabc_places.specs.declared.place.Place.{Place}
use Rattle.gabc_places.proofs.texts.CharactersOfStrings.{chars-encode}
use Rattle.gabc_headers.specs.HeldText.{IsHeld, IsWithinHeaders}
use Rattle.gabc_headers.specs.witness.HeadEvents.{HeadProgress, reading, after_headers, over, IsInHeaders}
use Rattle.gabc_body.proofs.units.CanonicalTextIsText.{nothing_plain}
use Rattle.gabc_score.proofs.resuming.ScoresAgree.{reads_in_body}
use Rattle.gabc_score.specs.ScoreReports.{before_of, before_with, held_in_body, held_of, in_body as in_body_of}
use Rattle.gabc_body.specs.Syllable.{UnplacedSyllable}
use Rattle.gabc_score.specs.ReportedWithin as told
use Rattle.gabc_score.specs.ReportedWithin.{ReportsWithin, ReportsText, whole_syllables, written_after}
use Rattle.gabc_score.specs.declared.preceding.Preceding.{Preceding}
use Rattle.gabc_score.specs.declared.body_tells.Openers.{Openers}
use Rattle.gabc_score.specs.declared.score_machine.ScorePart.{ScorePart}
use Rattle.gabc_score.specs.declared.score_machine.ScorePart.TheVariants as score_part
use Rattle.gabc_score.specs.witness.IsReachable.{IsReachable}
use Rattle.gabc_score.specs.witness.ScoreStage.{ScoreStageState}
use Rattle.gregorio_state.specs.Conditions.{AreBeforeHeld, AreCounts, AreOpeners, ArePhaseFields, AreScoreFields, AreStateFields, BeginsWithLf, IsHeldWithin}
use Rattle.gregorio_state.specs.Fields.{ScoreFields}
use Rattle.gregorio.specs.Saved.{held_count, held_text, phase_fields, score_fields, state_of}
use Rattle.gregorio.specs.machine.ClefInForce.{HasClefOfSounds}
use Rattle.gregorio.specs.machine.InStep.{AreInOnePart}
use Rattle.gregorio.specs.machine.ReadsHeaders.{IsReadSoFar}
use Rattle.gregorio.specs.machine.InSync.{TellsInBody}
use Rattle.gregorio.specs.witness.Engine.{EngineState}
use Rattle.gregorio.specs.witness.CanRun.{CanRun}

-- ---- the bytes of a text

text_bytes : (t : List ℕ) → All IsTextCharacter t → IsText (encode_utf8_all t)
text_bytes [] text = nothing_plain
text_bytes (c ∷ t) text =
    let here = All-head IsTextCharacter c t text in
    let rest = text_bytes t (All-tail IsTextCharacter c t text) in
    let first = IsUtf8-encode c here.scalar in
    let spelled : chars (encode_utf8 c ++ encode_utf8_all t) ≡ c ∷ chars (encode_utf8_all t) =
    chars-append (encode_utf8 c) (encode_utf8_all t) first ∙ ap (λ (cs : List ℕ). cs ++ chars (encode_utf8_all t)) (chars-encode c here.scalar) in
    record {
      utf8 = IsUtf8-append (encode_utf8 c) (encode_utf8_all t) first rest.utf8;
      plain = subst (All IsPlain) (sym spelled) (All-cons IsPlain c (chars (encode_utf8_all t)) here.plain rest.plain);
    }

-- ---- the held syllable

-- a held syllable is whole
held_is_whole : (part : ScorePart) (made : List UnplacedSyllable) → held_count (held_in_body part made) ≤ length made
held_is_whole part made = grind arith

-- so those before it and it are among the whole ones
held_among_whole : (s : ScoreStageState) → s.before.syllables + held_count (held_of s) ≤ whole_syllables s
held_among_whole s = let few = held_is_whole s.part s.held.gathered.made in omega (arith, few)

module _ (limits : Limits) (p : Preceding) where
  abbrev Within : Option UnplacedSyllable → Type 0
  Within held = IfSome held (told.IsHeldWithin limits p)

  held_is_text : (held : Option UnplacedSyllable) → IfSome held (λ m. IsText (written_after p m)) → IsText (held_text p held)
  held_is_text None t = nothing_plain
  held_is_text (Some m) t = t

  held_is_short : (held : Option UnplacedSyllable) → Within held → length (held_text p held) ≤ limits.syllable
  held_is_short held within = grind (arith, within)

  file_is_below : (held : Option UnplacedSyllable) → Within held → p.canonical < limits.input → p.canonical + length (held_text p held) < limits.input
  file_is_below held within below = grind (arith, within)

  none_whole : (held : Option UnplacedSyllable) → Within held → held_text p held ≡ [] → (held ≡ None → p.syllables ≡ 0) → p.syllables + held_count held ≡ 0
  none_whole held within none any = grind (arith, any, within)

  nothing_held : (held : Option UnplacedSyllable) → p.syllables + held_count held ≡ 0 → held_text p held ≡ []
  nothing_held held none = grind arith

  first_begins : (held : Option UnplacedSyllable) → (held ≡ None → p.syllables ≡ 0) → p.syllables + held_count held ≡ 1 → BeginsWithLf (held_text p held)
  first_begins held any one = grind (arith, any)

-- if at most one syllable is whole, none stands before the held one
none_before : (n : ℕ) (held : Option UnplacedSyllable) → (held ≡ None → n ≡ 0) → n + held_count held ≤ 1 → n ≡ 0
none_before n held none few = grind arith

-- ---- the fields

openers_are : (next place : Place) (o : Openers) → next ≡ place → told.AreOpenersBefore next o → told.AreOpenersBefore place o
openers_are next place o is h = subst (λ (at : Place). told.AreOpenersBefore at o) is h

pub score_in_body : (s : ScoreStageState) → s.part ≡ score_part.Body → is_some (before_of s) ≡ true
score_in_body s body = ap (λ (part : ScorePart). is_some (in_body_of part (before_with s.body s.before))) body

-- the laws of the parts
pub record PartsTell : Type 0 where
  pub headers : (limits : Limits) (t : List ℕ) → 1 ≤ limits.header → IsHeld limits t → IsWithinHeaders limits.header (encode_utf8_all t)
  pub within : (s : ScoreStageState) → IsReachable s → is_some (before_of s) ≡ true → ReportsWithin s
  pub held : (s : ScoreStageState) → IsReachable s → ReportsText s → IfSome (held_of s) (λ m. IsText (written_after s.before m))

module _ (parts : PartsTell) (e : EngineState) (may : CanRun e) (line : IfSome e.written.force.clef (λ clef. (1 ≤ clef.line) × (clef.line ≤ 5))) (heights : length e.written.force.alters ≡ 15)
    (clef : HasClefOfSounds e.score e.written) where
  module _ (body : e.score.part ≡ score_part.Body) (headed : e.written.headed ≡ true) where
    abbrev f : ScoreFields
    f = score_fields e.written.force e.score

    abbrev held : Option UnplacedSyllable
    held = held_of e.score

    within : ReportsWithin e.score
    within = parts.within e.score may.score (score_in_body e.score body)

    in_step : TellsInBody e.decoder e.score
    in_step = may.tells.body headed may.decoder.within

    of_text : told.IsReportOfText e.score
    of_text = in_step.told body

    any : held ≡ None → e.score.before.syllables ≡ 0
    any = in_step.holds body

    score_counts : AreCounts (state_of e) f
    score_counts = grind (arith, of_text, held_among_whole, file_is_below, within)

    score_before : AreBeforeHeld e.written.format f
    score_before = grind (arith, none_before, any, within)

    score_held : IsHeldWithin e.score.limits.syllable f
    score_held = record {
      is_text = held_is_text e.score.limits e.score.before held (parts.held e.score may.score in_step.told);
      short = held_is_short e.score.limits e.score.before held within.held;
      none = (λ none. none_whole e.score.limits e.score.before held within.held none any, λ none. nothing_held e.score.limits e.score.before held none);
      first = first_begins e.score.limits e.score.before held any;
    }

    score_openers : AreOpeners e.decoder.place f
    score_openers = grind (arith, openers_are, in_step, of_text)

    score_is_whole : AreScoreFields (state_of e) f
    score_is_whole = grind (arith, score_counts, score_before, score_held, score_openers, in_step, within, reads_in_body, of_text)

  phase_is_whole : (p : HeadProgress) → AreInOnePart p e.score.part e.written.headed → IsReadSoFar e.score.limits p e.decoder.place e.written.errors → ArePhaseFields (state_of e) (phase_fields p e.written.force e.score)
  phase_is_whole (reading t) at read = grind (arith, text_bytes, within)
  phase_is_whole (after_headers book) at read = score_is_whole at.in_part at.written_so
  phase_is_whole over at read = absurd at

  pub state_is_whole : AreStateFields (state_of e)
  state_is_whole = grind (arith, phase_is_whole)

-- ---- after the headers

pub is_in_the_body : (progress : HeadProgress) (part : ScorePart) (headed : Bool) → (IsInHeaders progress → ⊥) → AreInOnePart progress part headed → part ≡ score_part.Body
is_in_the_body (reading t) part headed past parts = absurd (past tt)
is_in_the_body (after_headers book) part headed past parts = parts.in_part
is_in_the_body over part headed past parts = absurd parts
