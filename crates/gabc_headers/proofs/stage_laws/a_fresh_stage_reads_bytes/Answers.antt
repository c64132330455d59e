use Rattle.std.proofs.Common.{List, ap, ◌∙◌}
use Rattle.gabc_places.specs.BoundedList.{extended_by}
use Rattle.gabc_places.specs.Chain.{chain_events, StagePair}
use Rattle.gabc_places.specs.DecoderMachine.{DecoderState}
use Rattle.gabc_places.specs.witness.DecoderEvents.{events_left as decoder_events}
use Rattle.gabc_places.specs.StageLaw.{concat_of}
use Rattle.gabc_headers.specs.declared.head_event.HeadEvent.{HeadEvent}
use Rattle.gabc_headers.specs.witness.HeadEvents.{HeaderStageState, events_left}
use Rattle.gabc_headers.proofs.stages.BytesThroughADecoder.{chained, known_text}
use Rattle.gabc_headers.proofs.stage_laws.a_fresh_stage_reads_bytes.Goals as goal

pub returns-clause-all : goal.returns-clause-all
returns-clause-all c =
    c.drive.ensures.events
    ∙ ap (λ (x : List HeadEvent). extended_by c.args.out.now x)
    (ap (λ (p : StagePair DecoderState HeaderStageState). concat_of (chain_events (decoder_events p.first) (events_left p.second.limits p.second.progress) c.args.bytes.items)) c.new-chain.ensures
    ∙ (ap (λ (s : HeaderStageState). concat_of (chain_events (decoder_events c.new.result) (events_left s.limits s.progress) c.args.bytes.items)) c.in_ok-stage.ensures.fresh
    ∙ chained c.args.limits (decoder_events c.new.result) c.args.bytes.items _ (c.new.ensures.at_end c.args.bytes.items)))

pub returns-clause-text : goal.returns-clause-text
returns-clause-text c e = returns-clause-all c ∙ ap (λ (x : List HeadEvent). extended_by c.args.out.now x) (known_text c.args.limits c.args.bytes.items e)
