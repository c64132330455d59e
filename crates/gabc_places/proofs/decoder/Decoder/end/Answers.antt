use Rattle.std.proofs.Common.{refl, ap}
use Rattle.gabc_places.specs.DecoderMachine.{DecoderState}
use Rattle.gabc_places.proofs.decoding.ADecoderStops.{gives_nothing}
use Rattle.gabc_places.proofs.decoder.Decoder.end.Goals as goal

pub returns-then-not-is_empty-clause-over : goal.returns-then-not-is_empty-clause-over
returns-then-not-is_empty-clause-over c = gives_nothing c.stop.new.self (ap (λ (s : DecoderState). s.ended) c.stop.ensures.state)

pub returns-clause-over : goal.returns-clause-over
returns-clause-over c = gives_nothing _ refl
