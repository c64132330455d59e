use Rattle.std.proofs.Common.{take}
use Rattle.gabc_places.specs.declared.limits.Limits.{Limits}
use Rattle.gregorio.specs.Streams.{joined}
use Rattle.gregorio_c.specs.Asked.{AsksFor}
use Rattle.gregorio_c.specs.Steps.{job_of, run_of}
use Rattle.gregorio_c.specs.declared.request.Request.{Request}
use Rattle.gregorio_c.specs.machine.InPieces.{PutsOn}
use Rattle.gregorio_c.proofs.in_pieces.a_run_may_be_fed_in_pieces.Given as goal

-- what was written of the pieces so far is put, and the state stands for the rest
abbrev pub invariant-loop-piece : goal.invariant-loop-piece
invariant-loop-piece g l = (request : Request) (limits : Limits) → AsksFor l.numbers.format l.numbers.flags l.numbers.options.now request limits →
    PutsOn g.O.Put.taken g.M.Put.taken (job_of request) limits (run_of (job_of request) limits) (joined (take l.piece-index l.pieces)) l.initial.out l.initial.lines (take l.len l.state) l.out l.lines
