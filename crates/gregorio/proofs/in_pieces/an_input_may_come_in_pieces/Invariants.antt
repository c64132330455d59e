use Rattle.std.proofs.Common.{◌≡◌, drop}
use Rattle.gregorio.specs.Engine.{NothingWaits, StillRuns}
use Rattle.gregorio.specs.Streams.{TakeTheSame, joined}
use Rattle.gregorio.specs.witness.Engine.{streams_left}
use Rattle.gregorio.proofs.in_pieces.an_input_may_come_in_pieces.Given as goal

-- with what is left, they will have taken all of it
abbrev pub invariant-loop-piece : goal.invariant-loop-piece
invariant-loop-piece g l = record {
  waits : NothingWaits l.engine;
  job : StillRuns l.initial.engine l.engine;
  hasher : l.engine.heads.hasher ≡ l.initial.engine.heads.hasher;
  put : TakeTheSame g.O.Put.taken g.M.Put.taken l.initial.out l.initial.messages (streams_left l.initial.engine l.ending (joined l.pieces)) l.out l.messages (streams_left l.engine l.ending (joined (drop l.piece-index l.pieces)));
}
