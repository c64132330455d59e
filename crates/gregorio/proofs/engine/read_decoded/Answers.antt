use Rattle.std.proofs.Common.{[], refl}
use Rattle.gabc_headers.specs.witness.HeadEvents.{HeaderStageState}
use Rattle.gregorio.specs.machine.Engine.{GoTogether, ReadsItems}
use Rattle.gregorio.specs.machine.ScoreWriter.{HasRoom, ScoreWriterState}
use Rattle.gregorio.proofs.pieces.ItemsAreRead.{no_items}
use Rattle.gregorio.proofs.pieces.PartsStayInStep.{nothing_in_step}
use Rattle.gregorio.proofs.pieces.RoomIsLeft.{room_for_end}
use Rattle.gregorio.proofs.pieces.TextOfHeaders.{nothing_reads_on}
use Rattle.gregorio.proofs.pieces.ScoreStaysInSync.{nothing_stays_telling}
use Rattle.gregorio.proofs.engine.read_decoded.Goals as goal

nothing_is_read : (h : HeaderStageState) (w : ScoreWriterState) → GoTogether h w → HasRoom w → ReadsItems h w [] h w
nothing_is_read h w together room = record {
  together = together;
  writes = no_items h w;
  step = nothing_in_step h w;
  reads = nothing_reads_on h w;
  tells = nothing_stays_telling h w;
  room = λ none. room_for_end w room;
  steady = record { limits = refl; format = refl; name = refl; all_warnings = refl; out = refl; messages = refl };
  hasher = refl;
}

pub returns-in_default-clause-reads : goal.returns-in_default-clause-reads
returns-in_default-clause-reads c = rw c.in_default.is (nothing_is_read c.args.heads.now c.args.writer.now c.requires.together c.requires.room)
