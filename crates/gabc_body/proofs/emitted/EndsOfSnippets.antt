-- A snippet of which nothing ends does not close.
use Rattle.std.proofs.Common.{◌≡◌, ℕ, Bool, true, false, List, [], ◌∷◌, refl, ap, ◌∙◌}
use Rattle.std.specs.List.{list_any}
use Rattle.gabc_notes.specs.SnippetRead.{ends_of}
use Rattle.gabc_notes.specs.declared.stage.NoteEnd.{NoteEnd}
use Rattle.gabc_notes.specs.declared.stage.NoteEnd.TheVariants as note_end
use Rattle.gabc_notes.specs.declared.stage.NoteEvent.{NoteEvent}
use Rattle.gabc_notes.specs.declared.stage.NoteEvent.TheVariants as note
use Rattle.gabc_body.specs.Events.{is_close}

abbrev pub is_close_end : NoteEnd → Bool
is_close_end note_end.Close = true
is_close_end how = false

pub any_close : (es : List NoteEvent) → list_any is_close es ≡ list_any (λ (e : NoteEnd × ℕ). is_close_end e.0) (ends_of es)
any_close [] = refl
any_close (note.Ended note_end.Close n ∷ es) = refl
any_close (_ ∷ es) = any_close es

pub none_close : (es : List NoteEvent) → ends_of es ≡ [] → list_any is_close es ≡ false
none_close es e = any_close es ∙ ap (list_any (λ (e : NoteEnd × ℕ). is_close_end e.0)) e
