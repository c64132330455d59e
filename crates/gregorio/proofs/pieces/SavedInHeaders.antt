-- Two engines that save the same in the headers.
use Rattle.std.proofs.Common.{◌≡◌, ℕ, List, [], ◌∷◌, ◌++◌, Bool, true, false, Option, is_none, Result, encode_utf8, encode_utf8_all, refl, ap, sym, subst, ◌∙◌, arith}
use Rattle.std.proofs.lemmas.Bool.{false≢true}
use Rattle.std.proofs.lemmas.List.Elements.{All-head, All-tail}
use Rattle.std.proofs.lemmas.Str.{IsUtf8-encode, chars-append, chars-nil}
use Rattle.std.specs.List.{All}
use Rattle.std.specs.Str.{chars}
use Rattle.gabc_places.proofs.texts.CharactersOfStrings.{chars-encode}
use Rattle.gabc_places.specs.DecoderMachine.{DecoderState}
use Rattle.gabc_places.specs.DecoderReports.{ReportTheSame}
use Rattle.gabc_places.specs.witness.DecoderEvents as decoder
use Rattle.gabc_places.specs.TextOfAnInput.{IsTextCharacter}
use Rattle.gabc_places.specs.declared.code.Fault.{Fault}
use Rattle.gabc_places.specs.declared.limits.Limits.{Limits}
use Rattle.gabc_places.specs.declared.place.Char.{Char}
use Rattle.gabc_places.specs.declared.place.Place.{Place}
use Rattle.gabc_headers.specs.declared.head_event.HeadEvent.{HeadEvent}
use Rattle.gabc_headers.specs.witness.HeadEvents.{HeaderStageState, HeadProgress, reading, after_headers, over, events_left, text_held}
use Rattle.gabc_neumes.specs.InForce.{InForce}
use Rattle.gabc_score.specs.declared.score_machine.ScorePart.{ScorePart}
use Rattle.gabc_score.specs.declared.score_machine.ScorePart.TheVariants as score_part
use Rattle.gabc_score.specs.witness.ScoreStage.{ScoreStageState, left_of}
use Rattle.gregorio.specs.declared.run_ending.RunEnding.{RunEnding}
use Rattle.gregorio_state.specs.Fields.{StateFields, InHeaders}
use Rattle.gregorio.specs.declared.source_ending.SourceEnding.{SourceEnding}
use Rattle.gregorio.specs.Saved.{phase_fields, state_of}
use Rattle.gregorio.specs.Engine.{StillRuns}
use Rattle.gregorio.specs.witness.CanRun.{CanRun}
use Rattle.gregorio.specs.witness.Engine.{EngineState, book_after, head_events_left, items_left, streams_from, streams_left}
use Rattle.gregorio.specs.machine.InStep.{AreInOnePart, RunsInStep}
use Rattle.gregorio.specs.machine.ReadsHeaders.{IsReadSoFar}
use Rattle.gregorio.specs.machine.SavedAlike.{WriteTheSame}
use Rattle.gregorio.specs.machine.ScoreWriter.{KeepsJobAndRooms, ScoreWriterState}
use Rattle.gabc_places.proofs.LimitsAreNumbers.{same_limits}
use Rattle.gregorio.proofs.pieces.StreamsAgree.{no_matter_which_book, streams_agree}

-- ---- the limits, and what is written

pub limits_saved : (one other : EngineState) → state_of one ≡ state_of other → one.score.limits ≡ other.score.limits
limits_saved one other same = same_limits one.score.limits other.score.limits (ap (λ (s : StateFields). s.header_limit) same) (ap (λ (s : StateFields). s.syllable_limit) same) (ap (λ (s : StateFields). s.input_limit) same)

-- if they do not end a run
none_both : (a b : Option RunEnding) → is_none a ≡ true → is_none b ≡ true → a ≡ b
none_both a b h k = grind arith

-- what is written, if as much is written and the same is in force
pub written_saved : (one other : EngineState) → state_of one ≡ state_of other → one.written.name ≡ other.written.name → is_none one.written.ended ≡ true → is_none other.written.ended ≡ true
    → one.written.headed ≡ other.written.headed → one.written.count ≡ other.written.count → one.written.force ≡ other.written.force → one.written ≡ other.written
written_saved one other same name runs other_runs headed count force = grind (arith, none_both)

-- ---- the decoder

pub decoders_saved : (one other : EngineState) → state_of one ≡ state_of other → ReportTheSame one.decoder other.decoder
decoders_saved one other same = grind arith

-- ---- in the headers

-- a stage of headers is in them, and nothing else has begun
record IsInHeads (progress : HeadProgress) (part : ScorePart) (headed : Bool) (text : List ℕ) : Type 0 where
  pub reads : progress ≡ reading (text_held progress)
  pub in_heads : part ≡ score_part.Heads
  pub unheaded : headed ≡ false
  pub bytes : encode_utf8_all (text_held progress) ≡ text

heads_by_written : (progress : HeadProgress) (part : ScorePart) (headed : Bool) → headed ≡ false → AreInOnePart progress part headed → IsInHeads progress part headed (encode_utf8_all (text_held progress))
heads_by_written (reading t) part headed is parts = record { reads = refl; in_heads = parts.in_part; unheaded = is; bytes = refl }
heads_by_written (after_headers book) part headed is parts = absurd (false≢true (sym is ∙ parts.written_so))
heads_by_written over part headed is parts = absurd parts

heads_by_phase : (progress : HeadProgress) (part : ScorePart) (headed : Bool) (force : InForce) (s : ScoreStageState) (text : List ℕ) → phase_fields progress force s ≡ InHeaders text → AreInOnePart progress part headed
    → IsInHeads progress part headed text
heads_by_phase (reading t) part headed force s text is parts = record { reads = refl; in_heads = parts.in_part; unheaded = parts.written_so; bytes = cc is }
heads_by_phase (after_headers book) part headed force s text is parts = absurd (cc is)
heads_by_phase over part headed force s text is parts = absurd parts

-- the bytes of a text of an input report its characters
chars_back : (t : List ℕ) → All IsTextCharacter t → chars (encode_utf8_all t) ≡ t
chars_back [] text = chars-nil
chars_back (c ∷ t) text =
    let here = All-head IsTextCharacter c t text in
    chars-append (encode_utf8 c) (encode_utf8_all t) (IsUtf8-encode c here.scalar)
    ∙ (ap (λ (cs : List ℕ). cs ++ chars (encode_utf8_all t)) (chars-encode c here.scalar) ∙ ap (λ (cs : List ℕ). c ∷ cs) (chars_back t (All-tail IsTextCharacter c t text)))

text_read : (limits : Limits) (progress : HeadProgress) (place : Place) (error : Bool) → progress ≡ reading (text_held progress) → IsReadSoFar limits progress place error → All IsTextCharacter (text_held progress)
text_read limits progress place error reads read = (subst (λ (p : HeadProgress). IsReadSoFar limits p place error) reads read).text

-- before the body two scores under the same limits give the same
same_heads : (one other : ScoreStageState) → one.limits ≡ other.limits → one.part ≡ score_part.Heads → other.part ≡ score_part.Heads → (from_heads : List HeadEvent) → left_of one from_heads ≡ left_of other from_heads
same_heads one other limits part other_part from_heads = grind arith

-- Two decoders run under one limit, and report the same.
pub record AreDecodersAlike (one other : DecoderState) : Type 0 where
  pub runs : one.ended ≡ false
  pub other_runs : other.ended ≡ false
  pub limit : one.limit ≡ other.limit
  pub told : ReportTheSame one other

pub decoders_alike : (one other : EngineState) → RunsInStep one.decoder one.heads one.score one.written → RunsInStep other.decoder other.heads other.score other.written → state_of one ≡ state_of other
    → AreDecodersAlike one.decoder other.decoder
decoders_alike one other run other_run same = grind (arith, decoders_saved)

-- What two engines in their headers have alike that save the same.
pub record AreAlikeInHeads (one other : EngineState) : Type 0 where
  pub written : one.written ≡ other.written
  pub decoders : AreDecodersAlike one.decoder other.decoder
  pub limits : one.heads.limits ≡ other.heads.limits
  pub reads : one.heads.progress ≡ reading (text_held one.heads.progress)
  pub other_reads : other.heads.progress ≡ reading (text_held other.heads.progress)
  pub text : text_held one.heads.progress ≡ text_held other.heads.progress
  pub gives : (from_heads : List HeadEvent) → WriteTheSame one.score other.score from_heads

pub saved_in_heads : (one other : EngineState) → CanRun one → CanRun other → one.written.headed ≡ false → one.written.name ≡ other.written.name → state_of one ≡ state_of other → AreAlikeInHeads one other
saved_in_heads one other run other_run headed name same =
    let first = heads_by_written one.heads.progress one.score.part one.written.headed headed run.step.parts in
    let phase : phase_fields other.heads.progress other.written.force other.score ≡ InHeaders (encode_utf8_all (text_held one.heads.progress)) =
    sym (ap (λ (s : StateFields). s.phase) same) ∙ ap (λ (p : HeadProgress). phase_fields p one.written.force one.score) first.reads in
    let second = heads_by_phase other.heads.progress other.score.part other.written.headed other.written.force other.score (encode_utf8_all (text_held one.heads.progress)) phase other_run.step.parts in
    let count = run.step.none headed in
    let other_count = other_run.step.none second.unheaded in
    let limits = limits_saved one other same in
    record {
      written = written_saved one other same name run.runs other_run.runs (headed ∙ sym second.unheaded) (count ∙ sym other_count) (run.force.outset count ∙ sym (other_run.force.outset other_count));
      decoders = decoders_alike one other run.step other_run.step same;
      limits = run.limits ∙ (limits ∙ sym other_run.limits);
      reads = first.reads;
      other_reads = second.reads;
      text =
          sym (chars_back (text_held one.heads.progress) (text_read one.heads.limits one.heads.progress one.decoder.place one.written.errors first.reads run.read))
          ∙ (ap chars (sym second.bytes) ∙ chars_back (text_held other.heads.progress) (text_read other.heads.limits other.heads.progress other.decoder.place other.written.errors second.reads other_run.read));
      gives = λ from_heads w book. ap (λ lists. streams_from w book from_heads lists) (same_heads one.score other.score limits first.in_heads second.in_heads from_heads);
    }

-- ---- what both write

pub heads_agree : (one other : EngineState) → AreAlikeInHeads one other → ((bytes : List ℕ) → decoder.events_left one.decoder bytes ≡ decoder.events_left other.decoder bytes)
    → ((items : List (Result Char Fault)) → events_left one.heads.limits one.heads.progress items ≡ events_left other.heads.limits other.heads.progress items) → (ending : SourceEnding) (bytes : List ℕ)
    → streams_left one ending bytes ≡ streams_left other ending bytes
heads_agree one other alike decoded given ending bytes =
    let items = items_left one ending bytes in
    let from_heads = head_events_left one.heads ending items in
    let progress = alike.reads ∙ (ap (λ (t : List ℕ). reading t) alike.text ∙ sym alike.other_reads) in
    streams_agree one other ending bytes alike.written (decoded bytes) given
    (no_matter_which_book one.written one.heads.limits one.heads.hasher other.heads.hasher one.heads.progress one.heads.book other.heads.book ending items (left_of one.score from_heads)
    ∙ (λ i. streams_from one.written (book_after (record other.heads { limits = alike.limits i; progress = progress i }) items) from_heads (left_of one.score from_heads)))
    (alike.gives from_heads)

-- ---- an engine shows its parts

abbrev pub shown : DecoderState → HeaderStageState → ScoreWriterState → EngineState
shown d h w = record { decoder = d; heads = h; score = w.score; written = w.writer.written; output = w.writer.out.items; messages = w.writer.messages.items }

-- what no call changes is enough for it to run the same job
pub still_runs : (d e : DecoderState) (h k : HeaderStageState) (w new : ScoreWriterState) → KeepsJobAndRooms w new → StillRuns (shown d h w) (shown e k new)
still_runs d e h k w new s job limits runs = record { limits_are = s.limits ∙ runs.limits_are; format = s.format ∙ runs.format; name = s.name ∙ runs.name; all_warnings = s.all_warnings ∙ runs.all_warnings }
