-- The parts of an engine stay in step in its body, and at its beginning and its end.
use Rattle.std.proofs.Common.{◌≡◌, ℕ, ◌+◌, ◌^◌, ◌≤◌, ◌<◌, List, [], ◌∷◌, Bool, true, false, is_none, Result, Ok, Err, refl, ap, sym, subst, ◌∙◌, arith}
use Rattle.std.proofs.lemmas.Bool.{false≢true}
use Rattle.std.specs.List.{list_any}
use Rattle.gabc_places.specs.DecoderMachine.{DecoderState, fresh_decoder}
use Rattle.gabc_places.specs.DecoderReports.{MovesOn}
use Rattle.gabc_places.specs.Place.{next_place, saturating_next_place}
use Rattle.gabc_places.specs.declared.code.Fault.{Fault}
use Rattle.gabc_places.specs.declared.limits.Limits.{Limits}
use Rattle.gabc_places.specs.declared.place.Char.{Char}
use Rattle.gabc_places.specs.declared.place.Place.{Place}
use Rattle.gabc_headers.specs.declared.head_event.HeadEvent.{HeadEvent}
use Rattle.gabc_headers.specs.declared.head_event.HeadEvent.TheVariants as head_event
use Rattle.gabc_headers.specs.witness.HeadEvents.{HeaderStageState, HeadProgress, reading, after_headers, over, IsAfterHeaders, fresh_stage}
use Rattle.gabc_score.specs.declared.preceding.Preceding.{Preceding}
use Rattle.gabc_score.specs.declared.score_machine.ScorePart.{ScorePart}
use Rattle.gabc_score.specs.declared.score_machine.ScorePart.TheVariants as score_part
use Rattle.gabc_score.specs.Before.{with_placed}
use Rattle.gabc_body.specs.ScoreEvents.{ScoreOutput, is_last, syllables_in}
use Rattle.gabc_score.specs.ScoreStage.{Counts, most_whole, part_past, preceding_past}
use Rattle.gabc_score.specs.ReportedWithin.{whole_syllables}
use Rattle.gabc_score.specs.witness.ScoreStage.{ScoreStageState}
use Rattle.gregorio.specs.witness.Engine.{Written}
use Rattle.gregorio.specs.machine.Engine.{event_of_item}
use Rattle.gregorio.specs.machine.InStep.{AreInOnePart, HasForce, IsInStep, PassesOn, RunsInStep, StayInStep}
use Rattle.gregorio.specs.machine.ScoreWriter.{ScoreWriterState, begun_again}
use Rattle.gregorio.proofs.StreamsOfOutputs.{headed_stays}
use Rattle.gregorio.proofs.pieces.WriterKeepsPaceWithScore.{counted, force_past, went_on_past}

-- ---- in the body

pub record IsInBody (progress : HeadProgress) (part : ScorePart) : Type 0 where
  pub after_them : IsAfterHeaders progress
  pub body : part ≡ score_part.Body

pub in_body : (progress : HeadProgress) (part : ScorePart) (headed : Bool) → headed ≡ true → AreInOnePart progress part headed → IsInBody progress part
in_body (reading t) part headed is parts = absurd (false≢true (sym parts.written_so ∙ is))
in_body (after_headers book) part headed is parts = record { after_them = tt; body = parts.in_part }
in_body over part headed is parts = absurd parts

pub one_part : (progress : HeadProgress) (part : ScorePart) (headed : Bool) → headed ≡ true → IsAfterHeaders progress → part ≡ score_part.Body → AreInOnePart progress part headed
one_part progress part headed is past body = grind arith

-- columns and lines that 64 bits hold do not saturate
pub same_next : (p : Place) (c : ℕ) → p.line + p.column < 2 ^ 33 → saturating_next_place p c ≡ next_place p c
same_next p c below = grind arith

-- a character brings the next place on by one
pub record IsNear (p : Place) (n : ℕ) : Type 0 where
  pub column : 1 ≤ p.column
  pub near : p.line + p.column ≤ n + 2

pub near_next : (p : Place) (c n : ℕ) → IsNear p n → IsNear (next_place p c) (n + 1)
near_next p c n h = grind arith

pub body_goes : (x : HeadEvent) (outputs : List ScoreOutput) (part : ScorePart) → part ≡ score_part.Body → list_any is_last outputs ≡ false → part_past part x outputs ≡ score_part.Body
body_goes x outputs part body none = rw (body, none) refl

one_more_whole : (x : Char) (part : ScorePart) (n : ℕ) → part ≡ score_part.Body → most_whole part (head_event.Body x) n ≡ n + 1
one_more_whole x part n body = rw body refl

pub near_after : (d e : DecoderState) (x : Char) → MovesOn d (Ok x ∷ []) e → IsNear d.place d.taken → IsNear e.place e.taken
near_after d e x moves near = grind (arith, near_next)

module _ (d e : DecoderState) (h : HeaderStageState) (old : ScoreStageState) (w : Written) (new : ScoreWriterState) (headed : w.headed ≡ true) (limits : new.score.limits ≡ old.limits) where
  character_step : (x : Char) → MovesOn d (Ok x ∷ []) e → PassesOn old w (head_event.Body x) new → (is_none w.ended ≡ true → RunsInStep d h old w) → is_none new.writer.written.ended ≡ true
      → RunsInStep e h new.score new.writer.written
  character_step x moves p ran running =
      let on = went_on_past old w (head_event.Body x) new p running in
      let was = ran on.before in
      let inside = in_body h.progress old.part w.headed headed was.parts in
      let body : new.score.part ≡ score_part.Body = p.part ∙ body_goes (head_event.Body x) p.outputs old.part inside.body on.none_last in
      let still : new.writer.written.headed ≡ true = ap (λ (v : Written). v.headed) p.written ∙ (headed_stays w p.outputs ∙ headed) in
      let before : new.score.before ≡ with_placed old.before (syllables_in p.outputs) = p.before_held body ∙ ap (λ (part : ScorePart). preceding_past part (head_event.Body x) p.outputs old.before) inside.body in
      let whole : whole_syllables new.score ≤ whole_syllables old + 1 =
      subst (λ (n : ℕ). whole_syllables new.score ≤ n) (one_more_whole x old.part (whole_syllables old) inside.body) (p.whole body) in
      let taken = was.taken headed in
      let same = ap (λ (q : Preceding). q.syllables) before in
      let next : IsNear e.place e.taken = near_after d e x moves (record { column = was.column; near = was.near }) in
      record {
        runs = moves.ended ∙ was.runs;
        limit = moves.limit ∙ (was.limit ∙ ap (λ (l : Limits). l.input) (sym limits));
        parts = one_part h.progress new.score.part new.writer.written.headed still inside.after_them body;
        none = λ un. absurd (false≢true (sym un ∙ still));
        count = λ is. ap (λ (v : Written). v.count) p.written ∙ (counted p.outputs w old.before headed (was.count headed) ∙ sym same);
        taken = λ is. omega (arith, whole, taken);
        column = next.column;
        near = next.near;
        counts = λ within.
            subst (λ (place : Place). Counts place new.score)
            (same_next x.place x.c (subst (λ (q : Place). q.line + q.column < 2 ^ 33) (sym moves.here) (let near = was.near in let limit = moves.limit in let most = old.limits.in_range.input_most in let same_limit = was.limit in omega (arith, near, most, same_limit, within, limit))) ∙ sym moves.place)
            (p.counts d.place moves.here (was.counts (let limit = moves.limit in omega (arith, within, limit))));
      }

  fault_step : (fault : Fault) → PassesOn old w (head_event.Stop fault) new → (is_none w.ended ≡ true → RunsInStep d h old w) → is_none new.writer.written.ended ≡ true
      → RunsInStep e h new.score new.writer.written
  fault_step fault p ran running =
      let on = went_on_past old w (head_event.Stop fault) new p running in
      let inside = in_body h.progress old.part w.headed headed (ran on.before).parts in
      absurd (false≢true (sym on.none_last ∙ p.last (λ is. cc (inside.body, is)) refl))

  item_step : (item : Result Char Fault) → MovesOn d (item ∷ []) e → PassesOn old w (event_of_item item) new → (is_none w.ended ≡ true → RunsInStep d h old w) → is_none new.writer.written.ended ≡ true
      → RunsInStep e h new.score new.writer.written
  item_step (Ok x) moves p ran running = character_step x moves p ran running
  item_step (Err fault) moves p ran running = fault_step fault p ran running

pub body_in_step : (h : HeaderStageState) (old : ScoreWriterState) (new : ScoreWriterState) (item : Result Char Fault) → old.writer.written.headed ≡ true → new.score.limits ≡ old.score.limits
    → PassesOn old.score old.writer.written (event_of_item item) new → StayInStep h old (item ∷ []) h new
body_in_step h old new item headed limits p = record {
  force = force_past old.score old.writer.written (event_of_item item) new p;
  runs = λ d e moves ran running. item_step d e h old.score old.writer.written new headed limits item moves p ran running;
}

-- ---- no item

nothing_runs : (d e : DecoderState) (h : HeaderStageState) (s : ScoreStageState) (w : Written) → MovesOn d [] e → RunsInStep d h s w → RunsInStep e h s w
nothing_runs d e h s w moves was = grind arith

pub nothing_in_step : (h : HeaderStageState) (s : ScoreWriterState) → StayInStep h s [] h s
nothing_in_step h s = grind (arith, nothing_runs)

-- ---- before the first byte

pub fresh_in_step : (v : Written) (limits : Limits) (d : DecoderState) (h : HeaderStageState) (s : ScoreWriterState) → d ≡ fresh_decoder limits.input → h ≡ fresh_stage limits h.hasher → s.writer.written ≡ begun_again v
    → s.score.limits ≡ limits → s.score.part ≡ score_part.Heads → IsInStep d h s.score s.writer.written
fresh_in_step v limits d h s is_d is_h is_w is_limits heads = record {
  force = subst HasForce (sym is_w) (record { untracked = λ gabc. refl; outset = λ none. refl });
  runs = λ running. record {
    runs = ap (λ (x : DecoderState). x.ended) is_d;
    limit = limit ∙ ap (λ (l : Limits). l.input) (sym is_limits);
    parts = subst (λ (x : HeaderStageState). AreInOnePart x.progress s.score.part s.writer.written.headed) (sym is_h) (record { in_part = heads; written_so = unheaded });
    none = λ un. ap (λ (w : Written). w.count) is_w;
    count = λ is. absurd (false≢true (sym unheaded ∙ is));
    taken = λ is. absurd (false≢true (sym unheaded ∙ is));
    column = let c = ap (λ (x : DecoderState). x.place.column) is_d in omega (arith, c);
    near = let l = ap (λ (x : DecoderState). x.place.line) is_d in let c = ap (λ (x : DecoderState). x.place.column) is_d in omega (arith, l, c);
    counts = λ within body. absurd (cc (body, heads));
  };
}
  where
    limit : d.limit ≡ limits.input
    limit = ap (λ (x : DecoderState). x.limit) is_d

    unheaded : s.writer.written.headed ≡ false
    unheaded = ap (λ (w : Written). w.headed) is_w
