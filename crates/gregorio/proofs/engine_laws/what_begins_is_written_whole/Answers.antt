use Rattle.std.proofs.Common.{ap, ◌∙◌}
use Rattle.gabc_places.specs.witness.DecoderEvents as decoder
use Rattle.gabc_headers.specs.HeadEvents.{emitted_by}
use Rattle.gabc_headers.specs.witness.HeadEvents.{HeaderStageState, stage_past}
use Rattle.gabc_body.specs.Events.{texts_by_definition}
use Rattle.gabc_score.specs.witness.ScoreStage.{left_of}
use Rattle.gregorio.specs.Outcome.{is_whole}
use Rattle.gregorio.specs.Streams.{Streams}
use Rattle.gregorio.specs.machine.ScoreWriter.{fresh_writer}
use Rattle.gregorio.specs.witness.Engine.{Written, head_events_left, streams_from}
use Rattle.gregorio.proofs.FreshEngineSaysOutcome.{LawsBelow, streams_are}
use Rattle.gregorio.proofs.engine_laws.what_begins_is_written_whole.Goals as goal

pub returns : goal.returns
returns c job limits s begun bytes ending =
    let below : LawsBelow = record {
      scalars = c.texts_are_scalars_within_the_limit.ensures.scalars;
      short = c.texts_are_scalars_within_the_limit.ensures.short;
      book = c.the_book_is_read.ensures;
      whole = c.a_stage_of_headers_emits_the_events.ensures.whole;
      broken = c.a_stage_of_headers_emits_the_events.ensures.broken;
      stopped = c.a_stage_of_headers_emits_the_events.ensures.stopped;
      counts = c.texts_are_read_in_full.ensures.counts;
      outputs = c.texts_are_read_in_full.ensures.outputs;
      findings = c.a_score_says_what_it_emits.ensures.findings;
      syllables = c.a_score_says_what_it_emits.ensures.syllables;
      fault = c.a_score_says_what_it_emits.ensures.fault;
      nothing_after = λ limits xs. c.nothing_follows_the_end.ensures texts_by_definition limits xs;
      end = c.a_score_says_what_it_emits.ensures.end;
      emitted = c.a_score_says_what_is_kept.ensures.score;
      few = c.syllables_are_fewer_than_bytes.ensures;
    } in
    let items = emitted_by (is_whole ending) bytes (decoder.events_left s.decoder bytes) in
    let streams : Written → HeaderStageState → Streams = λ written h. streams_from written (stage_past h items).book (head_events_left h ending items) (left_of s.score (head_events_left h ending items)) in
    ap (λ (written : Written). streams written s.heads) begun.written
    ∙ (ap (λ (h : HeaderStageState). streams (fresh_writer job) h) begun.heads
    ∙ streams_are below job limits s.heads.hasher s.decoder s.score begun.known begun.at_end begun.score bytes ending)
