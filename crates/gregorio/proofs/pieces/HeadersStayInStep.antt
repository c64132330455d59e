-- The parts of an engine stay in step in its headers.
use Rattle.std.proofs.Common.{◌≡◌, ℕ, ◌+◌, ◌||◌, not, List, [], ◌∷◌, ◌++◌, map, Bool, true, false, Option, is_none, is_some, Result, Ok, Err, if◌then◌else◌, refl, ap, sym, subst, ◌∙◌, arith}
use Rattle.std.proofs.lemmas.Bool.{false≢true}
use Rattle.std.specs.List.{list_any}
use Rattle.gabc_places.specs.DecoderMachine.{DecoderState}
use Rattle.gabc_places.specs.DecoderReports.{MovesOn}
use Rattle.gabc_places.specs.declared.code.Fault.{Fault}
use Rattle.gabc_places.specs.declared.code.Finding.{Finding}
use Rattle.gabc_places.specs.declared.limits.Limits.{Limits}
use Rattle.gabc_places.specs.declared.place.Char.{Char}
use Rattle.gabc_places.specs.declared.place.Place.{Place}
use Rattle.gabc_headers.specs.declared.head_event.HeadEvent.{HeadEvent}
use Rattle.gabc_headers.specs.declared.head_event.HeadEvent.TheVariants as head_event
use Rattle.gabc_headers.specs.declared.heads.Heads.{Heads}
use Rattle.gabc_headers.specs.declared.heads.HeadFault.{HeadFault}
use Rattle.gabc_headers.specs.Heads.{heads_of}
use Rattle.gabc_headers.specs.witness.HeadEvents.{HeaderStageState, HeadProgress, reading, after_headers, over, events_by, events_of_input, new_findings, progress_after, progress_by, stage_after}
use Rattle.gabc_headers.specs.HeadEvents.{event_of_book}
use Rattle.gabc_headers.specs.Book.{nabc_lines_of, macros_of}
use Rattle.gabc_headers.specs.Canonical.{canonical_heads}
use Rattle.gabc_headers.specs.Lines.{bytes_len}
use Rattle.gabc_score.specs.declared.score_machine.ScorePart.{ScorePart}
use Rattle.gabc_score.specs.declared.score_machine.ScorePart.TheVariants as score_part
use Rattle.gabc_score.specs.Before.{no_syllable, with_placed}
use Rattle.gabc_body.specs.ScoreEvents.{ScoreOutput, syllables_in}
use Rattle.gabc_score.specs.ScoreStage.{Counts, most_whole, part_past}
use Rattle.gabc_score.specs.ReportedWithin.{whole_syllables}
use Rattle.gregorio.specs.declared.run_ending.RunEnding.{RunEnding}
use Rattle.gregorio.specs.witness.Engine.{Written, is_heads}
use Rattle.gabc_score.specs.ScoreReports.{IsInFront}
use Rattle.gabc_score.specs.witness.ScoreStage.{ScoreStageState}
use Rattle.gregorio.specs.machine.Telling.{TellsOn}
use Rattle.gregorio.specs.machine.InSync.{InHeads, IsInHeads}
use Rattle.gregorio.proofs.pieces.EventsAreWritten.{unheaded_all}
use Rattle.gregorio.proofs.pieces.ItemsAreRead.{just_found}
use Rattle.gregorio.specs.machine.InStep.{AreInOnePart, PassesAll, PassesOn, RunsInStep, StayInStep, written_at}
use Rattle.gregorio.specs.machine.ScoreWriter.{ScoreWriterState}
use Rattle.gregorio.proofs.StreamsOfOutputs.{headed_stays}
use Rattle.gregorio.proofs.pieces.PartsStayInStep.{IsNear, near_after, one_part}
use Rattle.gregorio.proofs.pieces.WriterKeepsPaceWithScore.{counted, few_more, force_past_all, none_counted, running_before, went_on_past}

-- ---- in the headers

-- The headers are not written, and a run that goes on is in them.
pub record HeadsYet (limits : Limits) (s : ScoreWriterState) : Type 0 where
  pub unheaded : s.writer.written.headed ≡ false
  pub same : s.score.limits ≡ limits
  pub yet : is_none s.writer.written.ended ≡ true → InHeads s

pub found_passed : (limits : Limits) (f : Finding) (old mid : ScoreWriterState) → PassesOn old.score (written_at old.writer.written (head_event.Found f)) (head_event.Found f) mid → HeadsYet limits old → HeadsYet limits mid
found_passed limits f old mid p b =
    let w = written_at old.writer.written (head_event.Found f) in
    let unheaded : w.headed ≡ false = ap (λ (b : Bool). b || false) b.unheaded in
    record {
      unheaded = ap (λ (v : Written). v.headed) p.written ∙ (headed_stays w p.outputs ∙ unheaded);
      same = p.tells.limits ∙ b.same;
      yet = λ running.
          let on = went_on_past old.score w (head_event.Found f) mid p running in
          let i = b.yet on.before in
          record {
            part = p.part ∙ rw (i.part, on.none_last) refl;
            none = ap (λ (v : Written). v.count) p.written ∙ (none_counted p.outputs w unheaded ∙ i.none);
          };
    }

abbrev pub found_events : List Finding → List HeadEvent
found_events fs = map (λ f. head_event.Found f) fs

found_all : (limits : Limits) (fs : List Finding) (rest : List HeadEvent) (old new : ScoreWriterState) → HeadsYet limits old → PassesAll old (found_events fs ++ rest) new
    → (mid : ScoreWriterState) × (HeadsYet limits mid × PassesAll mid rest new)
found_all limits [] rest old new yet all = (old, (yet, all))
found_all limits (f ∷ fs) rest old new yet all = found_all limits fs rest all.0 new (found_passed limits f old all.0 all.1.0 yet) all.1.1

found_only : (limits : Limits) (fs : List Finding) (old new : ScoreWriterState) → HeadsYet limits old → PassesAll old (found_events fs) new → HeadsYet limits new
found_only limits [] old new yet all = subst (λ (s : ScoreWriterState). HeadsYet limits s) all yet
found_only limits (f ∷ fs) old new yet all = found_only limits fs all.0 new (found_passed limits f old all.0 all.1.0 yet) all.1.1

-- if the stage of headers stands so, the writer is in the same part, and at its beginning
pub record StepsTo (progress : HeadProgress) (s : ScoreWriterState) : Type 0 where
  pub parts : AreInOnePart progress s.score.part s.writer.written.headed
  pub none : s.writer.written.count ≡ 0
  pub whole : s.writer.written.headed ≡ true → whole_syllables s.score ≡ 0
  pub counts : (place : Place) → Counts place s.score

headed_now : (headed : Bool) (ended : Option RunEnding) → headed ≡ false → is_none ended ≡ true → (headed || not (headed || is_some ended)) ≡ true
headed_now headed ended un runs = grind arith

pub to_body : (lines macros canonical : ℕ) (outputs : List ScoreOutput) (part : ScorePart) → part ≡ score_part.Heads → part_past part (head_event.Heads lines macros canonical) outputs ≡ score_part.Body
to_body lines macros canonical outputs part heads = rw heads refl

heads_passed : (limits : Limits) (lines macros canonical : ℕ) (book : List (List ℕ × List ℕ)) (old mid : ScoreWriterState)
    → PassesOn old.score (written_at old.writer.written (head_event.Heads lines macros canonical)) (head_event.Heads lines macros canonical) mid → HeadsYet limits old
    → is_none mid.writer.written.ended ≡ true → StepsTo (after_headers book) mid
heads_passed limits lines macros canonical book old mid p b running =
    let x = head_event.Heads lines macros canonical in
    let w = written_at old.writer.written x in
    let on = went_on_past old.score w x mid p running in
    let i = b.yet on.before in
    let headed : w.headed ≡ true = headed_now old.writer.written.headed old.writer.written.ended b.unheaded on.before in
    let body : mid.score.part ≡ score_part.Body = p.part ∙ to_body lines macros canonical p.outputs old.score.part i.part in
    let start = no_syllable canonical in
    let more = few_more (syllables_in p.outputs) start in
    let count : mid.writer.written.count ≡ (with_placed start (syllables_in p.outputs)).syllables = ap (λ (v : Written). v.count) p.written ∙ counted p.outputs w start headed i.none in
    record {
      parts = one_part (after_headers book) mid.score.part mid.writer.written.headed (ap (λ (v : Written). v.headed) p.written ∙ (headed_stays w p.outputs ∙ headed)) tt body;
      none = omega (arith, more, count);
      whole = λ is. let most = p.whole body in let none : most_whole old.score.part x (whole_syllables old.score) ≡ 0 = ap (λ (part : ScorePart). most_whole part x (whole_syllables old.score)) i.part in omega (arith, most, none);
      counts = λ place. p.counts place tt (λ was. absurd (cc (was, i.part)));
    }

-- a stop does not let a run go on
stops : (limits : Limits) (fault : Fault) (old new : ScoreWriterState) → PassesAll old (head_event.Stop fault ∷ []) new → HeadsYet limits old → is_none new.writer.written.ended ≡ true → ⊥
stops limits fault old new all b running =
    let x = head_event.Stop fault in
    let p = all.1.0 in
    let on = went_on_past old.score (written_at old.writer.written x) x all.0 p (subst (λ (s : ScoreWriterState). is_none s.writer.written.ended ≡ true) (sym all.1.1) running) in
    false≢true (sym on.none_last ∙ p.last (λ is. cc (is, (b.yet on.before).part)) refl)

in_headers : (t : List ℕ) (s : ScoreWriterState) → s.writer.written.headed ≡ false → InHeads s → StepsTo (reading t) s
in_headers t s unheaded i = grind arith

module _ (limits : Limits) (found : List Finding) (t : List ℕ) (old new : ScoreWriterState) (yet : HeadsYet limits old) (running : is_none new.writer.written.ended ≡ true) where
  by_end : (at_end : Bool) (fault : Fault) → PassesAll old (if at_end then found_events found else head_event.Stop fault ∷ []) new → StepsTo (if at_end then reading t else over) new
  by_end true fault all = let b = found_only limits found old new yet all in in_headers t new b.unheaded (b.yet running)
  by_end false fault all = absurd (stops limits fault old new all yet running)

  by_heads : (r : Result Heads HeadFault) → PassesAll old (events_by found r) new → StepsTo (progress_by t r) new
  by_heads (Ok heads) all =
      let last = found_all limits found (event_of_book heads.book ∷ []) old new yet all in
      subst (λ (s : ScoreWriterState). StepsTo (after_headers heads.book) s) last.1.1.1.1
      (heads_passed limits (nabc_lines_of heads.book) (macros_of heads.book) (bytes_len (canonical_heads heads.book)) heads.book last.0 last.1.1.0 last.1.1.1.0 last.1.0
      (subst (λ (s : ScoreWriterState). is_none s.writer.written.ended ≡ true) (sym last.1.1.1.1) running))
  by_heads (Err stopped) all = by_end stopped.at_end stopped.fault all

pub in_heads : (progress : HeadProgress) (s : ScoreWriterState) → s.writer.written.headed ≡ false → AreInOnePart progress s.score.part s.writer.written.headed → s.writer.written.count ≡ 0
    → (t : List ℕ) × ((progress ≡ reading t) × HeadsYet s.score.limits s)
in_heads (reading t) s un parts none = (t, (refl, record { unheaded = un; same = refl; yet = λ running. record { part = parts.in_part; none = none } }))
in_heads (after_headers book) s un parts none = absurd (false≢true (sym un ∙ parts.written_so))
in_heads over s un parts none = absurd parts

module _ (limits : Limits) (old new : ScoreWriterState) (running : is_none new.writer.written.ended ≡ true) (yet : HeadsYet old.score.limits old) where
  by_item : (t : List ℕ) (item : Result Char Fault) → PassesAll old (events_of_input limits (reading t) item) new → StepsTo (progress_after limits (reading t) item) new
  by_item t (Ok x) all =
      let next = t ++ x.c ∷ [] in
      by_heads old.score.limits (new_findings limits t next) next old new yet running (heads_of limits next) all
  by_item t (Err fault) all = absurd (stops old.score.limits fault old new all yet running)

-- a fault leads out of the headers
runs_on : (limits : Limits) (t : List ℕ) (item : Result Char Fault) (old new : ScoreWriterState) (d e : DecoderState) → HeadsYet old.score.limits old → PassesAll old (events_of_input limits (reading t) item) new
    → is_none new.writer.written.ended ≡ true → MovesOn d (item ∷ []) e → IsNear d.place d.taken → (e.ended ≡ d.ended) × ((e.taken ≡ d.taken + 1) × IsNear e.place e.taken)
runs_on limits t (Ok x) old new d e yet all running moves near = (moves.ended, (moves.taken, near_after d e x moves near))
runs_on limits t (Err fault) old new d e yet all running moves near = absurd (stops old.score.limits fault old new all yet running)

module _ (d e : DecoderState) (h : HeaderStageState) (old new : ScoreWriterState) (unheaded : old.writer.written.headed ≡ false) (limits : new.score.limits ≡ old.score.limits) (item : Result Char Fault) (moves : MovesOn d (item ∷ []) e) where
  heads_run : PassesAll old (events_of_input h.limits h.progress item) new → (is_none old.writer.written.ended ≡ true → RunsInStep d h old.score old.writer.written) → is_none new.writer.written.ended ≡ true
      → RunsInStep e (stage_after h item) new.score new.writer.written
  heads_run all ran running =
      let was = ran (running_before (events_of_input h.limits h.progress item) old new all running) in
      let i = in_heads h.progress old unheaded was.parts (was.none unheaded) in
      let here = subst (λ (p : HeadProgress). PassesAll old (events_of_input h.limits p item) new) i.1.0 all in
      let on = runs_on h.limits i.0 item old new d e i.1.1 here running moves (record { column = was.column; near = was.near }) in
      let steps = subst (λ (p : HeadProgress). StepsTo (progress_after h.limits p item) new) (sym i.1.0) (by_item h.limits old new running i.1.1 i.0 item here) in
      record {
        runs = on.0 ∙ was.runs;
        limit = moves.limit ∙ (was.limit ∙ ap (λ (l : Limits). l.input) (sym limits));
        parts = steps.parts;
        none = λ un. steps.none;
        count = λ is. let none = steps.none in let whole = steps.whole is in omega (arith, none, whole);
        taken = λ is. let whole = steps.whole is in omega (arith, whole);
        column = on.1.1.column;
        near = on.1.1.near;
        counts = λ within. steps.counts e.place;
      }

pub heads_in_step : (h : HeaderStageState) (old new : ScoreWriterState) (item : Result Char Fault) → old.writer.written.headed ≡ false → new.score.limits ≡ old.score.limits
    → PassesAll old (events_of_input h.limits h.progress item) new → StayInStep h old (item ∷ []) (stage_after h item) new
heads_in_step h old new item unheaded limits all = record {
  force = force_past_all (events_of_input h.limits h.progress item) old new all;
  runs = λ d e moves ran running. heads_run d e h old new unheaded limits item moves all ran running;
}

-- ---- if they are whole

-- the headers are whole with this character
pub record HeadersEndAt (limits : Limits) (t : List ℕ) (x : Char) (s : ScoreStageState) : Type 0 where
  pub heads : Heads
  pub whole : heads_of limits (t ++ x.c ∷ []) ≡ Ok heads
  pub before : ScoreStageState
  pub part : before.part ≡ score_part.Heads
  pub same : before.limits ≡ limits
  pub tells : TellsOn before (event_of_book heads.book) s

pub record HeadersEnd (limits : Limits) (progress : HeadProgress) (item : Result Char Fault) (s : ScoreStageState) : Type 0 where
  pub text : List ℕ
  pub last : Char
  pub was : progress ≡ reading text
  pub is : item ≡ Ok last
  pub end : HeadersEndAt limits text last s

-- in a run that is over they are not written
none_written : (headed : Bool) (ended : Option RunEnding) → headed ≡ false → is_none ended ≡ false → (headed || not (headed || is_some ended)) ≡ false
none_written headed ended un done = grind arith

module _ (limits : Limits) (t : List ℕ) (x : Char) (heads : Heads) (whole : heads_of limits (t ++ x.c ∷ []) ≡ Ok heads) (mid new : ScoreWriterState) (b : HeadsYet limits mid)
    (p : PassesOn mid.score (written_at mid.writer.written (event_of_book heads.book)) (event_of_book heads.book) new) (headed : new.writer.written.headed ≡ true) where
  abbrev w : Written
  w = written_at mid.writer.written (event_of_book heads.book)

  head_is_told : HeadersEndAt limits t x new.score
  head_is_told = by (is_none mid.writer.written.ended) refl
    where
      by : (runs : Bool) → is_none mid.writer.written.ended ≡ runs → HeadersEndAt limits t x new.score
      by true runs = record { heads = heads; whole = whole; before = mid.score; part = (b.yet runs).part; same = b.same; tells = p.tells }
      by false over_now =
          absurd (false≢true (sym (ap (λ (v : Written). v.headed) p.written ∙ (headed_stays w p.outputs ∙ none_written mid.writer.written.headed mid.writer.written.ended b.unheaded over_now)) ∙ headed))

module _ (limits : Limits) (old new : ScoreWriterState) (b : HeadsYet limits old) (headed : new.writer.written.headed ≡ true) where
  ends_by : (t : List ℕ) (x : Char) (found : List Finding) (r : Result Heads HeadFault) → heads_of limits (t ++ x.c ∷ []) ≡ r → PassesAll old (events_by found r) new
      → (list_any is_heads (events_by found r) ≡ false → ⊥) → HeadersEndAt limits t x new.score
  ends_by t x found (Ok heads) whole all some =
      let last = found_all limits found (event_of_book heads.book ∷ []) old new b all in
      subst (λ (s : ScoreWriterState). HeadersEndAt limits t x s.score) last.1.1.1.1
      (head_is_told limits t x heads whole last.0 last.1.1.0 last.1.0 last.1.1.1.0 (subst (λ (s : ScoreWriterState). s.writer.written.headed ≡ true) (sym last.1.1.1.1) headed))
  ends_by t x found (Err stopped) whole all some = grind (arith, just_found)

  ends_with : (progress : HeadProgress) (item : Result Char Fault) → PassesAll old (events_of_input limits progress item) new → (list_any is_heads (events_of_input limits progress item) ≡ false → ⊥)
      → HeadersEnd limits progress item new.score
  ends_with (reading t) (Ok x) all some =
      let next = t ++ x.c ∷ [] in
      record { text = t; last = x; was = refl; is = refl; end = ends_by t x (new_findings limits t next) (heads_of limits next) refl all some }
  ends_with (after_headers book) (Ok x) all some = absurd (some refl)
  ends_with _ _ all some = absurd (some refl)

-- if they are whole with an item
abbrev pub HeadersEndSo : HeaderStageState → Result Char Fault → ScoreWriterState → Type 0
HeadersEndSo h item new = new.writer.written.headed ≡ true → HeadersEnd h.limits h.progress item new.score

pub headers_end : (h : HeaderStageState) (old new : ScoreWriterState) (item : Result Char Fault) → h.limits ≡ old.score.limits → old.writer.written.headed ≡ false → IsInHeads old
    → PassesAll old (events_of_input h.limits h.progress item) new → HeadersEndSo h item new
headers_end h old new item limits unheaded part all headed =
    let events = events_of_input h.limits h.progress item in
    ends_with h.limits old new (record { yet = λ running. part running unheaded; unheaded = unheaded; same = sym limits }) headed h.progress item all
    (λ none. false≢true (sym (unheaded_all events old new all (ap (λ (b : Bool). b || list_any is_heads events) unheaded ∙ none)) ∙ headed))

pub stands_in_front : (limits : Limits) (progress : HeadProgress) (item : Result Char Fault) (s : ScoreStageState) → HeadersEnd limits progress item s → IsInFront s
stands_in_front limits progress item s e = e.end.tells.front e.end.part _ _ _ refl
