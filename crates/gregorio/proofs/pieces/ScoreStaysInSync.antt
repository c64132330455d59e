-- A score goes on reporting of a text in step with its decoder.
use Rattle.std.proofs.Common.{◌≡◌, ℕ, ◌+◌, ◌^◌, ◌<◌, ◌≤◌, List, [], ◌∷◌, ◌++◌, map, Bool, true, false, is_none, Result, Ok, Err, refl, ap, sym, subst, ◌∙◌, arith}
use Rattle.std.proofs.lemmas.Bool.{false≢true}
use Rattle.std.proofs.lemmas.List.Elements.{All-head, All-tail}
use Rattle.std.specs.List.{All}
use Rattle.gabc_places.specs.DecoderMachine.{DecoderState, fresh_decoder}
use Rattle.gabc_places.specs.DecoderReports.{MovesOn}
use Rattle.gabc_places.specs.Place.{next_place, saturating_next_place}
use Rattle.gabc_places.specs.declared.code.Fault.{Fault}
use Rattle.gabc_places.specs.declared.code.Finding.{Finding}
use Rattle.gabc_places.specs.declared.limits.Limits.{Limits}
use Rattle.gabc_places.specs.declared.place.Char.{Char}
use Rattle.gabc_places.specs.declared.place.Place.{Place}
use Rattle.gabc_headers.specs.declared.head_event.HeadEvent.{HeadEvent}
use Rattle.gabc_headers.specs.declared.head_event.HeadEvent.TheVariants as head_event
use Rattle.gabc_headers.specs.declared.heads.Heads.{Heads}
use Rattle.gabc_headers.specs.declared.heads.HeadFault.{HeadFault}
use Rattle.gabc_headers.specs.Heads.{heads_of}
use Rattle.gabc_headers.specs.HeadEvents.{event_of_book}
use Rattle.gabc_headers.specs.witness.HeadEvents.{HeaderStageState, HeadProgress, reading, after_headers, over, events_by, events_of_input, new_findings}
use Rattle.gabc_score.specs.declared.body_stage.BodyPart.{BodyPart}
use Rattle.gabc_score.specs.declared.score_machine.ScorePart.{ScorePart}
use Rattle.gabc_score.specs.declared.score_machine.ScorePart.TheVariants as score_part
use Rattle.gabc_score.specs.ScoreStage.{IsPlaceBelow, MayCome}
use Rattle.gabc_score.specs.ScoreReports.{is_in_front, moved_part, moved_to, openers_of}
use Rattle.gabc_score.specs.ReportedWithin.{AreOpenersBefore, IsPlace, ReportsText}
use Rattle.gabc_score.specs.witness.ScoreStage.{ScoreStageState}
use Rattle.gregorio.specs.witness.Engine.{Written}
use Rattle.gregorio.specs.machine.Engine.{event_of_item}
use Rattle.gregorio.specs.machine.InStep.{AreInOnePart, PassesAll, PassesOn, RunsInStep, StayInStep}
use Rattle.gregorio.specs.machine.ScoreWriter.{ScoreWriterState}
use Rattle.gregorio.specs.machine.InSync.{BeginsBody, IsInHeads, IsTelling, StayTelling, TellsInBody, begun}
use Rattle.gregorio.proofs.pieces.HeadersStayInStep.{HeadersEndAt, HeadersEndSo, stands_in_front}
use Rattle.gregorio.proofs.pieces.PartsStayInStep.{in_body, same_next}
use Rattle.gregorio.proofs.pieces.WriterKeepsPaceWithScore.{running_before, went_on_past}

-- ---- lines

line_next : (p : Place) (c : ℕ) → 1 ≤ p.line → 1 ≤ (next_place p c).line
line_next p c least = grind arith

line_after : (d e : DecoderState) (item : Result Char Fault) → MovesOn d (item ∷ []) e → 1 ≤ d.place.line → 1 ≤ e.place.line
line_after d e item moves least = grind (arith, line_next)

-- ---- a character of the body

module _ (d e : DecoderState) (h : HeaderStageState) (old new : ScoreWriterState) (x : Char) (moves : MovesOn d (Ok x ∷ []) e) (was : RunsInStep d h old.score old.writer.written)
    (within : e.taken ≤ e.limit) where
  were_within : d.taken ≤ d.limit
  were_within = let more = moves.taken in let limit = moves.limit in omega (arith, more, limit, within)

  few : x.place.line + x.place.column < 2 ^ 33
  few = grind (arith, were_within)

  place_below : IsPlaceBelow x
  place_below = let most = few in (omega (arith, most), omega (arith, most))

  next_is : saturating_next_place x.place x.c ≡ e.place
  next_is = same_next x.place x.c few ∙ sym moves.place

  body_told : PassesOn old.score old.writer.written (head_event.Body x) new → old.writer.written.headed ≡ true → new.writer.written.headed ≡ true → RunsInStep e h new.score new.writer.written
      → TellsInBody d old.score → TellsInBody e new.score
  body_told p headed still is t = grind (arith, in_body, next_is, place_below, were_within)

pub body_stays_telling : (h : HeaderStageState) (old new : ScoreWriterState) (item : Result Char Fault) → old.writer.written.headed ≡ true → StayInStep h old (item ∷ []) h new
    → PassesOn old.score old.writer.written (event_of_item item) new → StayTelling h old (item ∷ []) new
body_stays_telling h old new (Ok x) headed stay p = λ d e moves ran told running.
    let on = went_on_past old.score old.writer.written (head_event.Body x) new p running in
    let t = told on.before in
    record {
      line = line_after d e (Ok x) moves t.line;
      body = λ still within.
          body_told d e h old new x moves (ran on.before) within p headed still (stay.runs d e moves ran running) (t.body headed (were_within d e h old new x moves (ran on.before) within));
    }
body_stays_telling h old new (Err fault) headed stay p = λ d e moves ran told running. absurd (false≢true (sym (stay.runs d e moves ran running).runs ∙ moves.ended))

-- ---- no item

pub nothing_stays_telling : (h : HeaderStageState) (s : ScoreWriterState) → StayTelling h s [] s
nothing_stays_telling h s = grind arith

-- ---- the end of the headers

front_opens_nothing : (next at : Place) (b : BodyPart) → is_in_front b ≡ true → AreOpenersBefore next (openers_of (moved_part at b))
front_opens_nothing next at b front = grind arith

-- in front the next character may stand anywhere
told_anywhere : (at : Place) (s : ScoreStageState) → is_in_front s.body.part ≡ true → IsPlace at → ReportsText s → ReportsText (moved_to at s)
told_anywhere at s front place told = λ body.
    let t = told body in
    record { counts = t.counts; next = place; openers = front_opens_nothing at at s.body.part front; reading = t.reading; held = t.held }

last_of_all : (P : HeadEvent → Type 0) (fs : List Finding) (x : HeadEvent) → All P (map (λ f. head_event.Found f) fs ++ x ∷ []) → P x
last_of_all P [] x all = All-head P x [] all
last_of_all P (f ∷ fs) x all = last_of_all P fs x (All-tail P (head_event.Found f) (map (λ f. head_event.Found f) fs ++ x ∷ []) all)

-- what the headers give may come
abbrev HeadersMayCome : Type 0
HeadersMayCome = (limits : Limits) (t : List ℕ) (x : Char) (next : Place) → All (MayCome limits next) (events_of_input limits (reading t) (Ok x))

headers_came : HeadersMayCome → (limits : Limits) (t : List ℕ) (x : Char) (s : ScoreStageState) (end : HeadersEndAt limits t x s) → MayCome end.before.limits end.before.held.next (event_of_book end.heads.book)
headers_came law limits t x s end =
    let next = t ++ x.c ∷ [] in
    let all = subst (λ (r : Result Heads HeadFault). All (MayCome limits end.before.held.next) (events_by (new_findings limits t next) r)) end.whole (law limits t x end.before.held.next) in
    subst (λ (l : Limits). MayCome l end.before.held.next (event_of_book end.heads.book)) (sym end.same)
    (last_of_all (MayCome limits end.before.held.next) (new_findings limits t next) (event_of_book end.heads.book) all)

-- the headers of this stage end with a percent
abbrev EndsWithPercent : HeaderStageState → Type 0
EndsWithPercent h = (t : List ℕ) (c : ℕ) (heads : Heads) → h.progress ≡ reading t → heads_of h.limits (t ++ c ∷ []) ≡ Ok heads → c ≡ 37

module _ (h now : HeaderStageState) (old mid : ScoreWriterState) (come : HeadersMayCome) (percent : EndsWithPercent h) (d e : DecoderState) (x : Char) (moves : MovesOn d (Ok x ∷ []) e)
    (was : RunsInStep d h old.score old.writer.written) (is : RunsInStep e now mid.score mid.writer.written) (line : 1 ≤ e.place.line) (t : List ℕ) (here : h.progress ≡ reading t)
    (end : HeadersEndAt h.limits t x mid.score) (front : is_in_front mid.score.body.part ≡ true) (within : e.taken ≤ e.limit) where
  starts_as_place : IsPlace e.place
  starts_as_place = grind arith

  told_first : ReportsText mid.score
  told_first = end.tells.told (headers_came come h.limits t x mid.score end) (λ body. absurd (cc (body, end.part))) (λ body. absurd (cc (body, end.part)))

  begins_in_step : TellsInBody e (moved_to (saturating_next_place x.place x.c) mid.score)
  begins_in_step =
      subst (λ (at : Place). TellsInBody e (moved_to at mid.score)) (sym (next_is d e h old mid x moves was within))
      (record {
        next = refl;
        told = told_anywhere e.place mid.score front starts_as_place told_first;
        holds = end.tells.holds (λ body. absurd (cc (body, end.part)));
        comment = λ cr. let lf = moves.cr is.runs cr in let mark = percent t x.c end.heads here end.whole in absurd (omega (arith, lf, mark));
      })

begun_here : (item : Result Char Fault) (x : Char) (headed : Bool) (s : ScoreStageState) → item ≡ Ok x → headed ≡ true → begun item headed s ≡ moved_to (saturating_next_place x.place x.c) s
begun_here item x headed s is on = rw (is, on) refl

module _ (h now : HeaderStageState) (old mid new : ScoreWriterState) (item : Result Char Fault) (come : HeadersMayCome) (percent : EndsWithPercent h) (all : PassesAll old (events_of_input h.limits h.progress item) mid)
    (stay : StayInStep h old (item ∷ []) now mid) (ends : HeadersEndSo h item mid) (begins : BeginsBody item mid new) where
  same_written : new.writer.written ≡ mid.writer.written
  same_written = ap (λ (s : ScoreWriterState). s.writer.written) begins.is

  pub heads_stay_telling : StayTelling h old (item ∷ []) new
  heads_stay_telling = λ d e moves ran told running.
      let goes = subst (λ (w : Written). is_none w.ended ≡ true) same_written running in
      let runs = running_before (events_of_input h.limits h.progress item) old mid all goes in
      let is = stay.runs d e moves ran goes in
      let least = line_after d e item moves (told runs).line in
      record {
        line = least;
        body = λ headed within.
            let on = sym (ap (λ (w : Written). w.headed) same_written) ∙ headed in
            let end = ends on in
            subst (λ (s : ScoreStageState). TellsInBody e s) (sym (ap (λ (s : ScoreWriterState). s.score) begins.is ∙ begun_here item end.last mid.writer.written.headed mid.score end.is on))
            (begins_in_step h now old mid come percent d e end.last (subst (λ (i : Result Char Fault). MovesOn d (i ∷ []) e) end.is moves) (ran runs) is least end.text end.was end.end
            (stands_in_front h.limits h.progress item mid.score end).front within);
      }

-- ---- before the first byte, and after the run is over

pub fresh_tells : (limits : Limits) (d : DecoderState) (s : ScoreWriterState) → d ≡ fresh_decoder limits.input → s.writer.written.headed ≡ false → IsTelling d s
fresh_tells limits d s is unheaded = grind arith

-- ---- the headers

heads_part : (progress : HeadProgress) (part : ScorePart) (headed : Bool) → headed ≡ false → AreInOnePart progress part headed → part ≡ score_part.Heads
heads_part (reading t) part headed un parts = parts.in_part
heads_part (after_headers book) part headed un parts = absurd (false≢true (sym un ∙ parts.written_so))
heads_part over part headed un parts = absurd parts

pub in_heads_yet : (d : DecoderState) (h : HeaderStageState) (w : ScoreWriterState) → (is_none w.writer.written.ended ≡ true → RunsInStep d h w.score w.writer.written) → IsInHeads w
in_heads_yet d h w ran = λ running un. record { part = heads_part h.progress w.score.part w.writer.written.headed un (ran running).parts; none = (ran running).none un }
