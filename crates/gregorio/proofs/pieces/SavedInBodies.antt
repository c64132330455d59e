-- Two engines that save the same in the body.
use Rattle.std.proofs.Common.{◌≡◌, ℕ, ◌+◌, ◌≤◌, List, length, Bool, true, Option, None, Some, IfSome, Result, refl, ap, sym, subst, ◌∙◌, arith}
use Rattle.std.specs.Option.{option_map}
use Rattle.gabc_places.specs.declared.code.Fault.{Fault}
use Rattle.gabc_places.specs.declared.place.Char.{Char}
use Rattle.gabc_places.specs.witness.DecoderEvents as decoder
use Rattle.gabc_places.specs.declared.limits.Limits.{Limits}
use Rattle.gabc_places.specs.declared.place.Place.{Place}
use Rattle.gabc_headers.specs.witness.HeadEvents.{HeadProgress, reading, after_headers, over, IsAfterHeaders, events_left}
use Rattle.gabc_neumes.specs.InForce.{InForce}
use Rattle.gabc_score.specs.ScoreStage.{AreInLine}
use Rattle.gabc_score.specs.ScoreReports.{IsAt, before_of, before_with, held_of, openers_of}
use Rattle.gabc_body.specs.Syllable.{UnplacedSyllable}
use Rattle.gabc_score.specs.ReportedWithin.{IsHeldWithin, ReportsWithin, written_after}
use Rattle.gabc_score.specs.declared.preceding.Preceding.{Preceding}
use Rattle.gabc_score.specs.declared.score_machine.ScorePart.{ScorePart}
use Rattle.gabc_score.specs.witness.ScoreStage.{ScoreStageState}
use Rattle.gregorio_state.specs.Fields.{ScoreFields, StateFields, InScore}
use Rattle.gregorio.specs.declared.source_ending.SourceEnding.{SourceEnding}
use Rattle.gregorio.specs.Saved.{held_count, held_text, phase_fields, score_fields, state_of}
use Rattle.gregorio.specs.witness.CanRun.{CanRun}
use Rattle.gregorio.specs.witness.Engine.{EngineState, head_events_left, items_left, streams_left}
use Rattle.gregorio.specs.machine.InStep.{AreInOnePart}
use Rattle.gabc_write.specs.SavedAlike.{AreSavedAlike}
use Rattle.gregorio.specs.machine.SavedAlike.{WriteTheSame}
use Rattle.gregorio.specs.machine.InSync.{TellsInBody}
use Rattle.gregorio.proofs.pieces.RemainingCharactersAreConsecutive.{left_in_line}
use Rattle.gregorio.proofs.pieces.PartsStayInStep.{IsInBody, in_body}
use Rattle.gregorio.proofs.pieces.SavedInHeaders.{limits_saved, written_saved}
use Rattle.gregorio.proofs.pieces.StatesAreWhole.{score_in_body}
use Rattle.gregorio.proofs.pieces.StreamsAgree.{no_matter_which_book_after, streams_agree}

-- ---- the held syllable

module _ (p q : Preceding) where
  abbrev HasText : Preceding → Option UnplacedSyllable → Type 0
  HasText before held = IfSome held (λ m. 2 ≤ length (written_after before m))

  same_held : (m n : Option UnplacedSyllable) → HasText p m → HasText q n → held_text p m ≡ held_text q n
      → (option_map (written_after p) m ≡ option_map (written_after q) n) × (held_count m ≡ held_count n)
  same_held None None h k e = (refl, refl)
  same_held (Some m) (Some n) h k e = (ap (λ text. Some text) e, refl)
  same_held None (Some n) h k e = let l = ap (λ (bytes : List ℕ). length bytes) e in absurd (omega (arith, k, l))
  same_held (Some m) None h k e = let l = ap (λ (bytes : List ℕ). length bytes) e in absurd (omega (arith, h, l))

has_text : (limits : Limits) (p : Preceding) (held : Option UnplacedSyllable) → IfSome held (IsHeldWithin limits p) → IfSome held (λ m. 2 ≤ length (written_after p m))
has_text limits p None h = tt
has_text limits p (Some m) h = h.some

less_of_sum : (a b c d : ℕ) → a + c ≡ b + d → c ≡ d → a ≡ b
less_of_sum a b c d sum e = omega (arith, sum, e)

-- ---- the phase

phase_in_body : (progress : HeadProgress) (force : InForce) (s : ScoreStageState) → IsAfterHeaders progress → phase_fields progress force s ≡ InScore (score_fields force s)
phase_in_body (after_headers book) force s h = refl
phase_in_body _ force s h = absurd h

headed_by_phase : (progress : HeadProgress) (part : ScorePart) (headed : Bool) (force : InForce) (s : ScoreStageState) (f : ScoreFields) → phase_fields progress force s ≡ InScore f → AreInOnePart progress part headed
    → headed ≡ true
headed_by_phase (reading t) part headed force s f is parts = absurd (cc is)
headed_by_phase (after_headers book) part headed force s f is parts = parts.written_so
headed_by_phase over part headed force s f is parts = absurd parts

-- In the body it reports of a text.
pub record TellsThere (e : EngineState) : Type 0 where
  pub inside : IsInBody e.heads.progress e.score.part
  pub headed : e.written.headed ≡ true
  pub tells : TellsInBody e.decoder e.score
  pub stands : IsAt e.score.held.next e.score.body.part

tells_there : (e : EngineState) → CanRun e → e.written.headed ≡ true → TellsThere e
tells_there e run headed =
    let inside = in_body e.heads.progress e.score.part e.written.headed headed run.step.parts in
    let tells = run.tells.body headed run.decoder.within in
    record {
      inside = inside;
      headed = headed;
      tells = tells;
      stands = subst (λ (at : Place). IsAt at e.score.body.part) (sym tells.next) (run.step.counts run.decoder.within inside.body);
    }

module _ (one other : EngineState) (run : CanRun one) (other_run : CanRun other) (headed : one.written.headed ≡ true) (same : state_of one ≡ state_of other) where
  abbrev fields : ScoreFields
  fields = score_fields one.written.force one.score

  pub here : TellsThere one
  here = tells_there one run headed

  phase : phase_fields other.heads.progress other.written.force other.score ≡ InScore fields
  phase = sym (ap (λ (s : StateFields). s.phase) same) ∙ phase_in_body one.heads.progress one.written.force one.score here.inside.after_them

  pub there : TellsThere other
  there = tells_there other other_run (headed_by_phase other.heads.progress other.score.part other.written.headed other.written.force other.score fields phase other_run.step.parts)

  -- the characters that come stand one after the other
  pub come_in_line : (ending : SourceEnding) (bytes : List ℕ) → AreInLine one.score.held.next (head_events_left one.heads ending (items_left one ending bytes))
  come_in_line ending bytes = grind (arith, left_in_line)

  same_fields : fields ≡ score_fields other.written.force other.score
  same_fields = cc (phase, phase_in_body other.heads.progress other.written.force other.score there.inside.after_them)

  module _ (within : ReportsWithin one.score) (other_within : ReportsWithin other.score) where
    abbrev held : Option UnplacedSyllable
    held = held_of one.score

    abbrev other_held : Option UnplacedSyllable
    other_held = held_of other.score

    some : IfSome held (λ m. 2 ≤ length (written_after one.score.before m))
    some = has_text one.score.limits one.score.before held within.held

    other_some : IfSome other_held (λ m. 2 ≤ length (written_after other.score.before m))
    other_some = has_text other.score.limits other.score.before other_held other_within.held

    text : held_text one.score.before held ≡ held_text other.score.before other_held
    text = ap (λ (f : ScoreFields). f.held) same_fields

    syllables : one.score.before.syllables ≡ other.score.before.syllables
    syllables = less_of_sum one.score.before.syllables other.score.before.syllables (held_count held) (held_count other_held) (ap (λ (f : ScoreFields). f.syllables) same_fields)
        (same_held one.score.before other.score.before held other_held some other_some text).1

    canonical : one.score.before.canonical ≡ other.score.before.canonical
    canonical = grind (arith, less_of_sum, same_fields)

    before : before_with one.score.body one.score.before ≡ before_with other.score.body other.score.before
    before = grind (arith, same_fields, syllables, canonical)

    same_before : before_of one.score ≡ before_of other.score
    same_before = grind arith

    same_openers : openers_of one.score.body.part ≡ openers_of other.score.body.part
    same_openers = λ i. record { notes = (same_fields i).notes_opener; inner = (same_fields i).inner_opener }

    pub saved_in_body : AreSavedAlike one.score other.score
    saved_in_body = record {
      runs = score_in_body one.score here.inside.body;
      limits = limits_saved one other same;
      before = same_before;
      told = here.tells.told;
      text = (same_held one.score.before other.score.before held other_held some other_some text).0;
      reading = ap (λ (f : ScoreFields). f.kept) same_fields;
      openers = same_openers;
      comment = ap (λ (f : ScoreFields). f.in_comment) same_fields;
      next = here.tells.next ∙ (ap (λ (s : StateFields). s.place) same ∙ sym there.tells.next);
      stands = here.stands;
      other_stands = there.stands;
    }

    pub written_in_body : one.written.name ≡ other.written.name → one.written ≡ other.written
    written_in_body name = grind (arith, written_saved, syllables, same_fields)

-- ---- what both write

pub bodies_agree : (one other : EngineState) → one.written ≡ other.written → one.written.headed ≡ true → ((bytes : List ℕ) → decoder.events_left one.decoder bytes ≡ decoder.events_left other.decoder bytes)
    → ((items : List (Result Char Fault)) → events_left one.heads.limits one.heads.progress items ≡ events_left other.heads.limits other.heads.progress items)
    → ((ending : SourceEnding) (bytes : List ℕ) → WriteTheSame one.score other.score (head_events_left one.heads ending (items_left one ending bytes))) → (ending : SourceEnding) (bytes : List ℕ) → streams_left one ending bytes ≡ streams_left other ending bytes
bodies_agree one other written headed decoded given gives ending bytes = grind (arith, streams_agree, no_matter_which_book_after)
