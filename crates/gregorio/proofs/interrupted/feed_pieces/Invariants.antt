use Rattle.std.proofs.Common.{◌+◌, ◌*◌, ◌≤◌, length, max, drop}
use Rattle.gregorio.specs.declared.source_ending.SourceEnding.{SourceEnding}
use Rattle.gregorio.specs.Streams.{TakeTheSame, joined}
use Rattle.gregorio.specs.witness.Engine.{streams_left}
use Rattle.gregorio.specs.machine.InMemory.{IsBetweenPieces}
use Rattle.gregorio.proofs.interrupted.feed_pieces.Given as goal

-- with what is left, they will have taken all of it
abbrev pub invariant-loop-piece : goal.invariant-loop-piece
invariant-loop-piece g l = record {
  between : IsBetweenPieces l.job l.limits l.engine;
  room : max l.limits.header (2 * l.limits.syllable) + 128 ≤ length l.buf;
  put : (ending : SourceEnding) → TakeTheSame g.O.Put.taken g.M.Put.taken l.initial.out l.initial.messages (streams_left l.initial.engine ending (joined l.pieces)) l.out l.messages (streams_left l.engine ending (joined (drop l.piece-index l.pieces)));
}
