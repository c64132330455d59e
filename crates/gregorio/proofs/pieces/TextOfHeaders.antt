-- Of the text of headers that an engine reads the place and the errors are those that it gives.
use Rattle.std.proofs.Common.{◌≡◌, ℕ, ◌||◌, List, [], ◌∷◌, ◌++◌, Bool, true, false, is_none, Result, Ok, Err, if◌then◌else◌, refl, ap, sym, subst, ◌∙◌, arith}
use Rattle.std.proofs.Math.Bool.{or-false, or_assoc}
use Rattle.std.proofs.lemmas.Bool.{false≢true}
use Rattle.std.specs.Char.{IsScalar}
use Rattle.std.specs.List.{All, list_any}
use Rattle.std.proofs.lemmas.List.Elements.{All-nil, All-push, All-weaker}
use Rattle.std.proofs.lemmas.List.Folds.{list_any-append}
use Rattle.gabc_places.specs.DecoderMachine.{DecoderState, fresh_decoder}
use Rattle.gabc_places.specs.DecoderReports.{MovesOn}
use Rattle.gabc_places.specs.TextOfAnInput.{IsTextCharacter}
use Rattle.gabc_places.specs.Place.{next_place}
use Rattle.gabc_places.specs.declared.code.Fault.{Fault}
use Rattle.gabc_places.specs.declared.code.Finding.{Finding}
use Rattle.gabc_places.specs.declared.limits.Limits.{Limits}
use Rattle.gabc_places.specs.declared.place.Char.{Char}
use Rattle.gabc_places.specs.declared.place.Place.{Place}
use Rattle.gabc_places.proofs.PlacesOfAText.{next_after}
use Rattle.gabc_headers.specs.declared.head_event.HeadEvent.TheVariants as head_event
use Rattle.gabc_headers.specs.declared.heads.Heads.{Heads}
use Rattle.gabc_headers.specs.declared.heads.HeadFault.{HeadFault}
use Rattle.gabc_headers.specs.Heads.{heads_of}
use Rattle.gabc_headers.specs.HeldText.{IsHeld, findings_held}
use Rattle.gabc_headers.specs.witness.HeadEvents.{HeaderStageState, HeadProgress, reading, over, events_by, events_of_input, fresh_stage, new_findings, progress_after, progress_by, stage_after}
use Rattle.gabc_body.specs.ScoreEvents.{ScoreOutput}
use Rattle.gabc_score.specs.declared.score_machine.ScorePart.{ScorePart}
use Rattle.gregorio.specs.Outcome.{is_error_finding}
use Rattle.gregorio.specs.machine.InStep.{AreInOnePart, PassesAll, written_at}
use Rattle.gregorio.specs.machine.ReadsHeaders.{IsReadAs, IsReadSoFar, ReadsHeaders, ReadsOn}
use Rattle.gregorio.specs.machine.ScoreWriter.{ScoreWriterState, begun_again}
use Rattle.gregorio.specs.witness.Engine.{Written, after_outputs}
use Rattle.gregorio.proofs.pieces.HeadersStayInStep.{HeadsYet, found_events, found_passed, in_heads}
use Rattle.gregorio.proofs.pieces.WriterKeepsPaceWithScore.{running_before, went_on_past}

-- ---- what is found

-- in the headers the errors among findings are reported
found_errors : (limits : Limits) (fs : List Finding) (old new : ScoreWriterState) → HeadsYet limits old → PassesAll old (found_events fs) new → is_none new.writer.written.ended ≡ true
    → new.writer.written.errors ≡ (old.writer.written.errors || list_any is_error_finding fs)
found_errors limits [] old new yet all running = ap (λ (s : ScoreWriterState). s.writer.written.errors) (sym all) ∙ sym (or-false old.writer.written.errors)
found_errors limits (f ∷ fs) old new yet all running =
    let mid = all.0 in
    let passes = all.1.0 in
    let w = written_at old.writer.written (head_event.Found f) in
    let here = running_before (found_events fs) mid new all.1.1 running in
    let before = (went_on_past old.score w (head_event.Found f) mid passes here).before in
    let first : mid.writer.written.errors ≡ (old.writer.written.errors || is_error_finding f) =
    ap (λ (v : Written). v.errors) passes.written ∙ ap (λ (outputs : List ScoreOutput). (after_outputs w outputs).errors) (passes.in_heads (yet.yet before).part) in
    found_errors limits fs mid new (found_passed limits f old mid passes yet) all.1.1 running
    ∙ (ap (λ (b : Bool). b || list_any is_error_finding fs) first
    ∙ or_assoc old.writer.written.errors (is_error_finding f) (list_any is_error_finding fs))

-- ---- a character

abbrev pub IsFoundAfter : Type 0
IsFoundAfter = (limits : Limits) (t : List ℕ) (c : ℕ) → All IsScalar t → IsScalar c → IsHeld limits t → IsHeld limits (t ++ c ∷ [])
    → findings_held limits (t ++ c ∷ []) ≡ findings_held limits t ++ new_findings limits t (t ++ c ∷ [])

module _ (law : IsFoundAfter) (limits : Limits) (t : List ℕ) (x : Char) (plain : IsTextCharacter x.c) (place : Place) (here : x.place ≡ place) (old new : ScoreWriterState) (yet : HeadsYet old.score.limits old)
    (running : is_none new.writer.written.ended ≡ true) (read : IsReadAs limits t place old.writer.written.errors) where
  abbrev longer : List ℕ
  longer = t ++ x.c ∷ []

  abbrev more : List Finding
  more = new_findings limits t longer

  read_more : IsHeld limits longer → PassesAll old (found_events more) new → IsReadAs limits longer (next_place x.place x.c) new.writer.written.errors
  read_more held all = record {
    text = All-push IsTextCharacter t x.c read.text plain;
    gives = record {
      held = held;
      next = ap (λ (p : Place). next_place p x.c) (here ∙ read.gives.next) ∙ next_after t x.c;
      errors = found_errors old.score.limits more old new yet all running
          ∙ (ap (λ (b : Bool). b || list_any is_error_finding more) read.gives.errors
          ∙ sym (ap (λ (fs : List Finding). list_any is_error_finding fs) (law limits t x.c (All-weaker IsTextCharacter IsScalar (λ c is. is.scalar) t read.text) plain.scalar read.gives.held held)
          ∙ list_any-append is_error_finding (findings_held limits t) more));
    };
  }

  read_by_end : (stopped : HeadFault) (at_end : Bool) → heads_of limits longer ≡ Err stopped → stopped.at_end ≡ at_end
      → PassesAll old (if at_end then found_events more else head_event.Stop stopped.fault ∷ []) new
      → IsReadSoFar limits (if at_end then reading longer else over) (next_place x.place x.c) new.writer.written.errors
  read_by_end stopped h is at_end all = grind (arith, read_more)

  pub read_by_heads : (r : Result Heads HeadFault) → heads_of limits longer ≡ r → PassesAll old (events_by more r) new
      → IsReadSoFar limits (progress_by longer r) (next_place x.place x.c) new.writer.written.errors
  read_by_heads r is all = grind (arith, read_by_end)

-- ---- an item

module _ (law : IsFoundAfter) (limits : Limits) (t : List ℕ) (d e : DecoderState) (old new : ScoreWriterState) (yet : HeadsYet old.score.limits old) (running : is_none new.writer.written.ended ≡ true)
    (read : IsReadAs limits t d.place old.writer.written.errors) where
  read_item : (item : Result Char Fault) → MovesOn d (item ∷ []) e → PassesAll old (events_of_input limits (reading t) item) new
      → IsReadSoFar limits (progress_after limits (reading t) item) e.place new.writer.written.errors
  read_item (Ok x) moves all =
      subst (λ (p : Place). IsReadSoFar limits (progress_after limits (reading t) (Ok x)) p new.writer.written.errors) (sym moves.place)
      (read_by_heads law limits t x moves.plain d.place moves.here old new yet running read (heads_of limits (t ++ x.c ∷ [])) refl all)
  read_item (Err fault) moves all = tt

pub heads_read_on : IsFoundAfter → (h : HeaderStageState) (old new : ScoreWriterState) (item : Result Char Fault) → old.writer.written.headed ≡ false → PassesAll old (events_of_input h.limits h.progress item) new → ReadsOn h old (item ∷ []) (stage_after h item) new
heads_read_on law h old new item unheaded all d e moves ran reads running = grind (arith, running_before, in_heads, read_item)

-- if the writer stays and its stage alone is changed
pub reads_begun : (h : HeaderStageState) (old mid new : ScoreWriterState) (item : Result Char Fault) → new.writer ≡ mid.writer → ReadsOn h old (item ∷ []) (stage_after h item) mid
    → ReadsOn h old (item ∷ []) (stage_after h item) new
reads_begun h old mid new item same reads d e moves ran were = grind arith

-- ---- after the headers, and if nothing comes

-- if they are written, nothing of them is read any more
pub headed_read : (limits : Limits) (progress : HeadProgress) (part : ScorePart) (headed : Bool) (place : Place) (error : Bool) → headed ≡ true → AreInOnePart progress part headed → IsReadSoFar limits progress place error
headed_read limits (reading t) part headed place error is parts = absurd (false≢true (sym parts.written_so ∙ is))
headed_read limits _ part headed place error is parts = tt

pub body_reads_on : (h : HeaderStageState) (old new : ScoreWriterState) (item : Result Char Fault) → old.writer.written.headed ≡ true
    → (is_none new.writer.written.ended ≡ true → is_none old.writer.written.ended ≡ true) → ReadsOn h old (item ∷ []) h new
body_reads_on h old new item headed earlier d e moves ran reads running = grind (arith, headed_read)

pub nothing_reads_on : (h : HeaderStageState) (s : ScoreWriterState) → ReadsOn h s [] h s
nothing_reads_on h s d e moves ran reads running = grind arith

-- ---- before the first byte, and after the last

pub fresh_reads : (v : Written) (limits : Limits) (d : DecoderState) (h : HeaderStageState) (w : Written) → ((limits : Limits) → IsHeld limits []) → d ≡ fresh_decoder limits.input → h ≡ fresh_stage limits h.hasher → w ≡ begun_again v
    → ReadsHeaders d h w
fresh_reads v limits d h w law is_d is_h is_w running =
    subst (λ (s : HeaderStageState). IsReadSoFar s.limits s.progress d.place w.errors) (sym is_h) (record {
      text = All-nil IsTextCharacter;
      gives = record {
        held = law limits;
        next = ap (λ (x : DecoderState). x.place) is_d;
        errors = ap (λ (v : Written). v.errors) is_w;
      };
    })
