-- A text that is kept again, read by itself, is what some stage reports of the syllable that it
-- reads.
use Rattle.std.proofs.Common.{◌≡◌, ◌<◌, ◌≤◌, ◌^◌, ℕ, Bool, true, false, List, [], length, encode_utf8_all, refl, sym, ap, ◌∙◌, arith}
use Rattle.std.proofs.lemmas.Str.{encodes_same}
use Rattle.gabc_text.specs.witness.EventsLeft as fresh_events
use Rattle.gabc_places.specs.Place.{place_past}
use Rattle.gabc_places.specs.StageLaw.{concat_of}
use Rattle.gabc_places.specs.declared.limits.Limits.{Limits}
use Rattle.gabc_text.specs.BuiltText.{empty_view}
use Rattle.gabc_score.specs.declared.body_stage.BodyPart.{BodyPart}
use Rattle.gabc_score.specs.declared.body_tells.Openers.{Openers}
use Rattle.gabc_body.specs.declared.events.BodyEvent.{BodyEvent}
use Rattle.gabc_score.specs.declared.score_machine.ScorePart.TheVariants as score_part
use Rattle.gabc_body.specs.declared.syllable.Position.TheVariants as position
use Rattle.gabc_score.specs.Before.{no_syllable}
use Rattle.gabc_body.specs.Body.{events_onto}
use Rattle.gabc_score.specs.witness.EmittedAgain.{IsEmittedAgain}
use Rattle.gabc_score.specs.ReadAgain.{IsReported}
use Rattle.gabc_body.specs.ScoreEvents.{first_place}
use Rattle.gabc_score.specs.ScoreReports.{is_in_comment, is_in_front, openers_of}
use Rattle.gabc_body.specs.Syllable.{PlacedSyllable, all_syllables, kept_of}
use Rattle.gabc_body.specs.witness.BodyBuilder.{with_all}
use Rattle.gabc_body.specs.witness.Gatherer.{Gathered, nothing_gathered}
use Rattle.gabc_score.specs.machine.PartKeeps.{KeptParts, joined, PartKeeps}
use Rattle.gabc_score.specs.witness.ScoreStage.{ScoreStageState}
use Rattle.gabc_score.proofs.keeping.AnyTextIsRead.{Reaches, all, one, reaches, reads_one}
use Rattle.gabc_score.proofs.keeping.KeptIsKeptAgain.{begins_text, kept_again}
use Rattle.gabc_score.proofs.keeping.OpenersCanBeMoved.{OpensSo, opens_so}
use Rattle.gabc_score.proofs.keeping.PartsTakeCharacters.{TakesOne}
use Rattle.gabc_score.proofs.keeping.ReadByDefinition.{FromBeginning, begun_text, emitted_plain, emitted_with, since_all}
use Rattle.gabc_score.proofs.keeping.ReadByItself.{gathered_of, no_spans}
use Rattle.gabc_score.specs.machine.StageLaws.{StageLaws}

-- ---- a part that keeps the text

pub record KeepsText (lines macros : ℕ) (t : List ℕ) (comment : Bool) : Type 0 where
  pub part : BodyPart
  pub parts : KeptParts
  pub keeps : PartKeeps lines macros part parts
  pub is : joined parts ≡ t
  pub front : is_in_front part ≡ false
  pub comment_is : is_in_comment part ≡ comment

module _ (laws : StageLaws) (reads : FromBeginning) (lines macros : ℕ) (t : List ℕ) (few : length (encode_utf8_all t) < 2 ^ 63) where
  r : Reaches laws.steps lines macros first_place begun_text [] t
  r = reaches laws.steps lines macros t first_place begun_text [] no_spans (begins_text laws reads lines macros).reading refl (omega (arith, few))

  after : List BodyEvent
  after = events_onto (concat_of r.read.lists) []

  module _ (openers : Openers) (comment : Bool) (h : IsEmittedAgain lines macros t openers comment) where
    none : all_syllables after ≡ []
    unfolding after
    none = ap all_syllables (sym (emitted_plain reads laws.steps lines macros t few r.read)) ∙ h.none

    kept : (gathered_of after).builder.kept ≡ encode_utf8_all t
    unfolding after
    kept = ap kept_of (since_all after none ∙ sym (emitted_plain reads laws.steps lines macros t few r.read)) ∙ h.kept

    plain : is_in_comment r.read.after ≡ false
    unfolding after fresh_events.events_left
    plain = r.outside refl (let e = ap length kept in omega (arith, e))

    keeps_plain : KeepsText lines macros t false
    unfolding after
    keeps_plain = record {
      part = r.read.after;
      parts = r.reading.parts;
      keeps = r.reading.keeps;
      is = encodes_same (joined r.reading.parts) t (sym r.reading.kept ∙ kept);
      front = r.front;
      comment_is = plain;
    }

    -- with the `%`
    percent_fits : length (gathered_of (events_onto (concat_of r.read.lists) [])).builder.kept < 2 ^ 64
    unfolding after
    percent_fits = let e = ap length kept in omega (arith, e, few)

    o : TakesOne lines macros r.read.after (record { c = 37; place = place_past first_place t })
    o = one laws.steps lines macros (place_past first_place t) r.read.after (events_onto (concat_of r.read.lists) []) r.spans r.reading r.front 37

    keeps_percent : comment ≡ true → KeepsText lines macros t true
    unfolding after o
    keeps_percent is =
        let reading = reads_one laws.steps lines macros (place_past first_place t) r.read.after (events_onto (concat_of r.read.lists) []) r.spans r.reading r.front 37 percent_fits in
        let same : with_all (gathered_of (events_onto (concat_of r.read.lists) [])) o.now ≡ gathered_of (events_onto o.now (events_onto (concat_of r.read.lists) [])) =
        all laws.steps lines macros (place_past first_place t) r.read.after (events_onto (concat_of r.read.lists) []) r.spans r.reading r.front 37 in
        let made : all_syllables (events_onto o.now (events_onto (concat_of r.read.lists) [])) ≡ [] =
        ap (λ (g : Gathered). g.made) (sym same) ∙ o.keeps_one.made r.reading.parts r.reading.keeps refl (gathered_of (events_onto (concat_of r.read.lists) [])) ∙ none in
        let still : (gathered_of (events_onto o.now (events_onto (concat_of r.read.lists) []))).builder.kept ≡ encode_utf8_all t =
        ap kept_of (since_all (events_onto o.now (events_onto (concat_of r.read.lists) [])) made ∙ sym (emitted_with reads laws.steps lines macros t few r.read o)) ∙ h.percent is in
        record {
          part = o.after;
          parts = reading.parts;
          keeps = reading.keeps;
          is = encodes_same (joined reading.parts) t (sym reading.kept ∙ still);
          front = o.front;
          comment_is = o.keeps_one.percent r.reading.parts r.reading.keeps refl (gathered_of (events_onto (concat_of r.read.lists) [])) (ap (λ (g : Gathered). g.builder.kept) same ∙ still ∙ sym kept);
        }

    pub keeps_text : KeepsText lines macros t comment
    keeps_text = grind (arith, keeps_percent, keeps_plain)

-- ---- a stage that reports it

abbrev no_syllable_lent : PlacedSyllable
no_syllable_lent = record { made = record { text = empty_view; kept = []; snippets = []; eu = false; nlba = false }; position = position.One }

-- a stage in the body that stands so
abbrev stage_of : Limits → ℕ → ℕ → BodyPart → List ℕ → ScoreStageState
stage_of limits lines macros part kept = record {
  limits = limits;
  part = score_part.Body;
  before = no_syllable 0;
  held = record {
    next = first_place;
    gathered = record (nothing_gathered limits.syllable 0) { builder = record { kept = kept; from = 0; view = empty_view; snippets = [] } };
    is_preceded = false;
  };
  body = record { nabc_lines = lines; macros = macros; part = part; ended = false; events = [] };
  first = no_syllable_lent;
  second = no_syllable_lent;
}

pub is_reported : StageLaws → FromBeginning → (limits : Limits) (lines macros : ℕ) (t : List ℕ) (openers : Openers) (comment : Bool) → IsEmittedAgain lines macros t openers comment
    → length (encode_utf8_all t) ≤ limits.syllable → IsReported limits lines macros t openers comment
is_reported laws reads limits lines macros t openers comment h short = record {
  stage = stage_of limits lines macros there.there (encode_utf8_all t);
  again = record { body = refl; told = record { parts = b.parts; keeps = there.keeps; is = ap encode_utf8_all (sym b.is); short = short } };
  limits_are = refl;
  lines_are = refl;
  macros_are = refl;
  tells = record { front = there.front; reading = refl; openers_are = there.openers; comment_is = there.comment ∙ b.comment_is };
}
  where
    few : length (encode_utf8_all t) < 2 ^ 63
    few = let most = limits.in_range.syllable_most in omega (arith, short, most)

    b : KeepsText lines macros t comment
    b = keeps_text laws reads lines macros t few openers comment h

    again : IsEmittedAgain lines macros t (openers_of b.part) (is_in_comment b.part)
    again = kept_again laws reads lines macros t b.part b.parts b.keeps b.front b.is few

    there : OpensSo lines macros b.part b.parts openers
    there = opens_so laws.moves lines macros b.part b.parts openers b.keeps b.front (h.notes ∙ sym again.notes) (h.inner ∙ sym again.inner)
