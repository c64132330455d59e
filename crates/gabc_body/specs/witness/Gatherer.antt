-- The gatherer of syllables, by the events of a body.
use Rattle.std.specs.Prelude.{ℕ, ◌+◌, ◌||◌, ◌^◌, ◌-◌, min, nat_lt, ◌==◌, ◌&&◌, not, List, [], ◌∷◌, ◌++◌, Bool, true, false, cond, length, Option, Some, None, is_some, codes}
use Rattle.gabc_places.specs.declared.place.Place.{Place}
use Rattle.gabc_places.specs.declared.place.Span.{Span}
use Rattle.gabc_text.specs.declared.view.Piece.{Piece}
use Rattle.gabc_text.specs.declared.text_event.TextPart.{TextPart}
use Rattle.gabc_text.specs.declared.text_event.TextPart.TheVariants as part
use Rattle.gabc_text.specs.declared.text_event.TextEnd.{TextEnd}
use Rattle.gabc_text.specs.declared.text_event.TextEnd.TheVariants as text_end
use Rattle.gabc_text.specs.declared.text_event.TextEvent.{TextEvent}
use Rattle.gabc_text.specs.declared.text_event.TextEvent.TheVariants as text
use Rattle.gabc_text.specs.BuiltText.{with_part}
use Rattle.gabc_notes.specs.FirstNoteOrClef.{first_note_or_clef}
use Rattle.gabc_notes.specs.Items.{items_of}
use Rattle.gabc_notes.specs.declared.item.ItemKind.{ItemKind}
use Rattle.gabc_notes.specs.declared.stage.NoteEnd.{NoteEnd}
use Rattle.gabc_notes.specs.declared.stage.NoteEnd.TheVariants as note_end
use Rattle.gabc_notes.specs.declared.stage.NoteEvent.{NoteEvent}
use Rattle.gabc_notes.specs.declared.stage.NoteEvent.TheVariants as note
use Rattle.gabc_body.specs.declared.events.BodyEvent.{BodyEvent}
use Rattle.gabc_body.specs.declared.events.BodyEvent.TheVariants as event
use Rattle.gabc_body.specs.Syllable.{UnplacedSyllable, prefix_of, slice, text_at, is_open_after}
use Rattle.gabc_body.specs.Canonical.{canonical}
use Rattle.gabc_body.specs.Body.{is_longer, empty_snippet, has_text}
use Rattle.gabc_body.specs.witness.SyllableBuilder.{OpenSyllable, nothing_open, with_kept, past_text, snippet_from, past_snippet, made_from}

-- The state gathered: `follows` says whether a syllable is before the current one, `total` is the
-- number of canonical bytes of the headers and of the syllables before it, and `over` says whether
-- one that was made is longer than the limit. `cut` is the place of the bracket that the end left
-- open. `first_kind` says which came first in the GABC snippets that have ended, a note or a clef.
pub record Gathered : Type 0 where
  pub limit : ℕ
  pub builder : OpenSyllable
  pub eu : Bool
  pub nlba : Bool
  pub made : List UnplacedSyllable
  pub follows : Bool
  pub total : ℕ
  pub over : Bool
  pub cut : Option Place
  pub first_kind : Option ItemKind

abbrev pub nothing_gathered : ℕ → ℕ → Gathered
nothing_gathered limit head = record { limit = limit; builder = nothing_open; eu = false; nlba = false; made = []; follows = false; total = head; over = false; cut = None; first_kind = None }

abbrev pub with_mark : Gathered → Piece → Gathered
with_mark g p =
    let spelled = slice p.span g.builder.kept in
    record g {
      eu = is_open_after (codes "<eu>") (codes "</eu>") g.eu p.kind spelled;
      nlba = is_open_after (codes "<nlba>") (codes "</nlba>") g.nlba p.kind spelled;
    }

abbrev pub with_mark_of : Gathered → TextPart → Gathered
with_mark_of g (part.Piece p) = with_mark g p
with_mark_of g _ = g

abbrev pub with_view_part : Gathered → TextPart → Gathered
with_view_part g p = record g { builder = record g.builder { view = with_part g.builder.view p } }

abbrev pub with_text_end : Gathered → TextEnd → Gathered
with_text_end g text_end.Notes = record g { builder = past_text g.builder }
with_text_end g text_end.Finished = g
with_text_end g (text_end.Cut place) = record g { cut = Some place }

abbrev pub with_text : Gathered → TextEvent → Gathered
with_text g (text.Kept c) = record g { builder = with_kept g.builder c.c }
with_text g (text.Part p) = with_view_part (with_mark_of g p) p
with_text g (text.Found f) = g
with_text g (text.Ended end) = with_text_end g end

-- neither a note nor a clef has come in GABC, and this is a line of GABC
abbrev pub awaits : Option ItemKind → ℕ → Bool
awaits first line = (line == 0) && not (is_some first)

-- which came first, once the snippet of this line and span has ended
abbrev pub first_past : Option ItemKind → ℕ → Span → List ℕ → Option ItemKind
first_past first line span kept = cond (awaits first line) (first_note_or_clef (items_of (text_at span kept))) first

-- the span of the snippet that ends now
abbrev pub span_of : OpenSyllable → ℕ → ℕ → Span
span_of o line count = (snippet_from o line (prefix_of (o.from + count) o.kept)).span

abbrev pub with_snippet : Gathered → ℕ → ℕ → ℕ → Gathered
with_snippet g line count mark =
    let o = past_snippet g.builder line count mark in
    record g { builder = o; first_kind = first_past g.first_kind line (span_of g.builder line count) o.kept }

abbrev pub with_count : Gathered → UnplacedSyllable → Gathered
with_count g m =
    let size = min (length (canonical (not g.follows || m.text.word_start) m)) (2 ^ 64 - 1) in
    record g { total = min (g.total + size) (2 ^ 64 - 1); over = g.over || (is_longer g.limit m.kept || nat_lt g.limit size) }

abbrev pub with_made : Gathered → UnplacedSyllable → Gathered
with_made g m = record (with_count g m) { builder = nothing_open; made = g.made ++ m ∷ []; follows = true }

abbrev pub with_syllable : Gathered → Gathered
with_syllable g = with_made g (made_from g.builder g.eu g.nlba)

abbrev pub with_note_end : Gathered → ℕ → NoteEnd → ℕ → Gathered
with_note_end g line note_end.Next count = with_snippet g line count 124
with_note_end g line note_end.Close count = with_syllable (with_snippet g line count 41)
with_note_end g line (note_end.Cut place) count = record g { cut = Some place }

abbrev pub with_note : Gathered → ℕ → NoteEvent → Gathered
with_note g line (note.Kept c) = record g { builder = with_kept g.builder c.c }
with_note g line (note.Found f) = g
with_note g line (note.Ended how count) = with_note_end g line how count

abbrev pub with_event : Gathered → BodyEvent → Gathered
with_event g (event.Text out) = with_text g out
with_event g (event.Notes line out) = with_note g line out

-- the notes of a last text are one empty snippet
abbrev pub with_no_notes : Gathered → Gathered
with_no_notes g = record g { builder = record g.builder { snippets = empty_snippet g.builder.kept ∷ [] } }

abbrev pub with_last : Gathered → Gathered
with_last g = cond (has_text g.builder.view) (with_syllable (with_no_notes g)) g
