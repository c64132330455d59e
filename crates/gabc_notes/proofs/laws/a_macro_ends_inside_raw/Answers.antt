use Rattle.gabc_notes.proofs.by_kept.NotesMacros.{macro_in_raw}
use Rattle.gabc_notes.proofs.laws.a_macro_ends_inside_raw.Goals as goal

pub returns : goal.returns
returns c = macro_in_raw
