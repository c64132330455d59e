use Rattle.std.proofs.Common.{refl}
use Rattle.gabc_patterns.proofs.ReadDecides.{read_decides}
use Rattle.gabc_notes.specs.Table.{gabc}
use Rattle.gabc_notes.proofs.by_kept.NotesViable.{viable_decides, raw_same}
use Rattle.gabc_notes.proofs.grammar.LawsOfKeptTexts.{kinds_are_one}
use Rattle.gabc_notes.proofs.laws.notes_are_decided.Goals as goal

pub returns : goal.returns
returns c = record { snippet = read_decides gabc refl kinds_are_one; viable = viable_decides; raw = raw_same }
