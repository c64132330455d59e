-- The parts that are made from the fields of a state stand together as those of an engine that
-- runs.
use Rattle.std.proofs.Common.{◌≡◌, ℕ, ◌+◌, ◌-◌, ◌≤◌, List, [], ◌∷◌, Bool, true, false, Option, None, inl, refl, ap, sym, subst, ◌∙◌, arith}
use Rattle.std.proofs.lemmas.Bool.{and_parts, false≢true}
use Rattle.std.proofs.lemmas.List.Elements.{All-cons, All-head, All-nil, All-tail}
use Rattle.std.proofs.lemmas.Str.{encodes-chars, scalars-chars}
use lib.Utf8.{scalars}
use Rattle.std.specs.List.{All}
use Rattle.std.specs.Str.{chars}
use Rattle.std.specs.declared.hash.DefaultHasher.{DefaultHasher}
use Rattle.gabc_places.specs.BoundedList.{BoundedList}
use Rattle.gabc_places.specs.DecoderMachine.{DecoderState}
use Rattle.gabc_places.specs.DecoderReports.{is_after_cr, resumed}
use Rattle.gabc_places.specs.TextOfAnInput.{IsPlain, IsText, IsTextCharacter}
use Rattle.gabc_places.specs.declared.limits.Limits.{Limits}
use Rattle.gabc_places.specs.declared.place.Place.{Place}
use Rattle.gabc_headers.specs.HeldText.{holding}
use Rattle.gabc_headers.specs.declared.head_event.HeadEvent.{HeadEvent}
use Rattle.gabc_headers.specs.witness.HeadEvents.{HeaderStageState, reading, after_headers}
use Rattle.gabc_body.specs.Syllable.{UnplacedSyllable}
use Rattle.gabc_score.specs.ScoreReports.{IsAt, held_of}
use Rattle.gabc_score.specs.declared.score_machine.ScorePart.TheVariants as score_part
use Rattle.gabc_score.specs.witness.ScoreStage.{ScoreStageState}
use Rattle.gregorio_jobs.specs.declared.job.Job.{Job}
use Rattle.gregorio_state.specs.Conditions.{AreHeaderFields, ArePhaseFields, AreScoreFields, AreStateFields}
use Rattle.gregorio_state.specs.Fields.{PhaseFields, ScoreFields, StateFields, InHeaders, InScore}
use Rattle.gregorio.specs.Saved.{GivesHeaders, held_count, phase_fields}
use Rattle.gregorio.specs.SavedState.{IsOfJob}
use Rattle.gregorio.specs.Outcome.{input_name}
use Rattle.gregorio.specs.witness.Engine.{EngineState, Written}
use Rattle.gregorio.specs.machine.Engine.{IsEngine}
use Rattle.gregorio.specs.machine.HeldHeaders.{after_mark}
use Rattle.gregorio.specs.machine.InStep.{AreInOnePart, HasForce}
use Rattle.gregorio.specs.machine.Restored.{GoesOn, HasEmptyRooms, StandIn, StandSo, written_by}
use Rattle.gregorio.specs.machine.Restoring.{IsSetDown}
use Rattle.gregorio.specs.machine.ScoreWriter.{IsReserved, ScoreWriterState}
use Rattle.gregorio.proofs.pieces.HeadersAreRead.{no_heads_are_short}

-- ---- a text

-- its characters may be those of a text of an input
characters : (cs : List ℕ) → scalars cs ≡ true → All IsPlain cs → All IsTextCharacter cs
characters [] are plain = All-nil IsTextCharacter
characters (c ∷ cs) are plain =
    let both = and_parts _ (scalars cs) are in
    All-cons IsTextCharacter c cs (record { scalar = both.0; plain = All-head IsPlain c cs plain }) (characters cs both.1 (All-tail IsPlain c cs plain))

text_characters : (bytes : List ℕ) → IsText bytes → All IsTextCharacter (chars bytes)
text_characters bytes is = characters (chars bytes) (scalars-chars bytes is.utf8) is.plain

-- ---- the syllables before the held one

before_by : (o : Option UnplacedSyllable) (before all : ℕ) → (o ≡ None → before ≡ 0) → before + held_count o ≡ all → all - 1 ≡ before
before_by o before all none is = grind arith

pub before_is : (s : StateFields) (f : ScoreFields) (score : ScoreStageState) → IsSetDown s f score → f.syllables - 1 ≡ score.before.syllables
before_is s f score d = before_by (held_of score) score.before.syllables f.syllables (d.holds d.body) (ap (λ (g : ScoreFields). g.syllables) d.tells)

-- ---- what is in force

module _ (job : Job) (s : StateFields) (limits : Limits) (is_job : IsOfJob job limits s) where
  force_by : (phase : PhaseFields) → ArePhaseFields s phase → HasForce (written_by job s phase)
  force_by phase fields = grind arith

-- ---- the engine

module _ (job : Job) (s : StateFields) (limits : Limits) (is_job : IsOfJob job limits s) (fields : AreStateFields s) (from_heads : BoundedList HeadEvent) (few : 2 ≤ from_heads.limit)
    (w : ScoreWriterState) (limits_are : w.score.limits ≡ limits) (rooms : HasEmptyRooms limits w.writer) where
  abbrev decoder : DecoderState
  decoder = resumed s.input_limit s.taken s.place s.pending s.after_cr

  module _ (cr : is_after_cr decoder ≡ s.after_cr) where
    reserved : IsReserved w
    reserved = grind arith

    input_is : s.input_limit ≡ w.score.limits.input
    input_is = is_job.limits_are.input ∙ ap (λ (l : Limits). l.input) (sym limits_are)

    near : s.place.line + s.place.column ≤ s.taken + 2
    near = let reached = fields.decoder.reached.bytes in omega (arith, reached)

    module _ (hasher : DefaultHasher) (text : List ℕ) (are : AreHeaderFields s text) (gives : GivesHeaders limits (chars text) s.place s.has_error) (part : w.score.part ≡ score_part.Heads)
        (is_w : w.writer.written ≡ written_by job s (InHeaders text)) where
      unheaded : w.writer.written.headed ≡ false
      unheaded = ap (λ (v : Written). v.headed) is_w

      parts : AreInOnePart (reading (chars text)) w.score.part w.writer.written.headed
      parts = record { in_part = part; written_so = unheaded }

      pub engine_in_headers : IsEngine decoder (holding limits hasher (chars text)) from_heads w
      engine_in_headers = record {
        few = few;
        together = record {
          limits = sym limits_are;
          headed = λ is. absurd (false≢true (sym unheaded ∙ is));
          book = tt;
          short = no_heads_are_short limits;
        };
        reserved = reserved;
        step = record {
          force = subst HasForce (sym is_w) (force_by job s limits is_job (InHeaders text) are);
          runs = λ running. record {
            runs = refl;
            limit = input_is;
            parts = parts;
            none = λ un. ap (λ (v : Written). v.count) is_w;
            count = λ is. absurd (false≢true (sym unheaded ∙ is));
            taken = λ is. absurd (false≢true (sym unheaded ∙ is));
            column = fields.decoder.reached.column;
            near = near;
            counts = λ within body. absurd (cc (body, part));
          };
        };
        headers = λ running. record {
          text = text_characters text are.is_text;
          gives = subst (λ (e : Bool). GivesHeaders limits (chars text) s.place e) (sym (ap (λ (v : Written). v.errors) is_w)) gives;
        };
        tells = λ running. record {
          line = fields.decoder.reached.line;
          body = λ is. absurd (false≢true (sym unheaded ∙ is));
        };
      }

    module _ (hasher : DefaultHasher) (f : ScoreFields) (are : AreScoreFields s f) (d : IsSetDown s f w.score) (is_w : w.writer.written ≡ written_by job s (InScore f)) where
      headed : w.writer.written.headed ≡ true
      headed = ap (λ (v : Written). v.headed) is_w

      body_parts : AreInOnePart (after_headers []) w.score.part w.writer.written.headed
      body_parts = record { in_part = d.body; written_so = headed }

      pub engine_in_score : IsEngine decoder (after_mark limits hasher) from_heads w
      engine_in_score = record {
        few = few;
        together = record {
          limits = sym limits_are;
          headed = λ is. inl tt;
          book = refl;
          short = no_heads_are_short limits;
        };
        reserved = reserved;
        step = record {
          force = subst HasForce (sym is_w) (force_by job s limits is_job (InScore f) are);
          runs = λ running. record {
            runs = refl;
            limit = input_is;
            parts = body_parts;
            none = λ un. absurd (false≢true (sym un ∙ headed));
            count = λ is. ap (λ (v : Written). v.count) is_w ∙ before_is s f w.score d;
            taken = λ is. d.whole;
            column = fields.decoder.reached.column;
            near = near;
            counts = λ within body. subst (λ (p : Place). IsAt p w.score.body.part) d.next d.stands;
          };
        };
        headers = λ running. tt;
        tells = λ running. record {
          line = fields.decoder.reached.line;
          body = λ is within. record {
            next = d.next;
            told = d.told;
            holds = d.holds;
            comment = λ was_cr. ap (λ (g : ScoreFields). g.in_comment) d.tells ∙ are.comment.cr (sym cr ∙ was_cr);
          };
        };
      }

    by_phase : (phase : PhaseFields) (h : HeaderStageState) → ArePhaseFields s phase → StandIn s phase limits h w.score → w.writer.written ≡ written_by job s phase → IsEngine decoder h from_heads w
    by_phase (InHeaders text) h are stand is_w = subst (λ (x : HeaderStageState). IsEngine decoder x from_heads w) (sym stand.heads) (engine_in_headers h.hasher text are stand.gives stand.part is_w)
    by_phase (InScore f) h are stand is_w = subst (λ (x : HeaderStageState). IsEngine decoder x from_heads w) (sym stand.heads) (engine_in_score h.hasher f are stand.set_down is_w)

    pub restored_engine : (d : DecoderState) (h : HeaderStageState) → d ≡ decoder → StandSo s limits h w.score → w.writer.written ≡ written_by job s s.phase → IsEngine d h from_heads w
    restored_engine d h is_d so is_w = subst (λ (x : DecoderState). IsEngine x h from_heads w) (sym is_d) (by_phase s.phase h fields.phase so.stand is_w)

-- ---- what it reports

module _ (job : Job) (s : StateFields) (limits : Limits) (is_job : IsOfJob job limits s) (fields : AreStateFields s) (e : EngineState) (is_d : e.decoder ≡ resumed s.input_limit s.taken s.place s.pending s.after_cr)
    (cr : is_after_cr e.decoder ≡ s.after_cr) (limits_are : e.score.limits ≡ limits) (output : e.output ≡ []) (messages : e.messages ≡ []) where
  goes : (format : e.written.format ≡ job.format) → e.written.all_warnings ≡ job.all_warnings → e.written.errors ≡ s.has_error → e.written.name ≡ input_name job.input → e.written.ended ≡ None
      → phase_fields e.heads.progress e.written.force e.score ≡ s.phase → GoesOn job limits s e.heads.hasher e
  goes format warnings errors name ended phase = grind arith

  goes_by : (phase : PhaseFields) → phase ≡ s.phase → ArePhaseFields s phase → StandIn s phase limits e.heads e.score → e.written ≡ written_by job s phase → GoesOn job limits s e.heads.hasher e
  goes_by phase is are stand is_w = grind (arith, goes, encodes-chars)

  pub goes_on : StandSo s limits e.heads e.score → e.written ≡ written_by job s s.phase → GoesOn job limits s e.heads.hasher e
  goes_on so is_w = goes_by s.phase refl fields.phase so.stand is_w
