-- The values gathered from a stage's events. It is no promise.
use Rattle.std.specs.Prelude.{ℕ, List, [], ◌∷◌, ◌++◌, Option, Some, None, string_bytes, encode_utf8}
use Rattle.gabc_places.specs.declared.code.Finding.{Finding}
use Rattle.gabc_notes.specs.declared.stage.NoteEnd.{NoteEnd}
use Rattle.gabc_notes.specs.declared.stage.NoteEvent.{NoteEvent}
use Rattle.gabc_notes.specs.declared.stage.NoteEvent.TheVariants.{Kept, Found, Ended}
use Rattle.gabc_nabc.specs.declared.whole.NabcBuilder.{NabcBuilder}

pub record BuiltNabc : Type 0 where
  pub kept : List ℕ
  pub findings : List Finding
  pub end : Option (NoteEnd × ℕ)

abbrev pub built_nabc_of : NabcBuilder → BuiltNabc
built_nabc_of r = record { kept = string_bytes r.kept; findings = r.findings; end = r.end }

abbrev pub with_event : BuiltNabc → NoteEvent → BuiltNabc
with_event g (Kept x) = record g { kept = g.kept ++ encode_utf8 x.c }
with_event g (Found f) = record g { findings = g.findings ++ f ∷ [] }
with_event g (Ended e n) = record g { end = Some (e, n) }

abbrev pub with_events : BuiltNabc → List NoteEvent → BuiltNabc
with_events g [] = g
with_events g (output ∷ outputs) = with_events (with_event g output) outputs

abbrev pub no_nabc : BuiltNabc
no_nabc = record { kept = []; findings = []; end = None }
