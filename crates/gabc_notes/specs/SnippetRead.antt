-- The reading of a whole snippet.
use Rattle.std.specs.Prelude.{◌≡◌, ℕ, sum_by, List, [], ◌∷◌, length, take, Bool, if◌then◌else◌, Option, Some, None, string_bytes, encode_utf8_all}
use Rattle.std.specs.Char.{len_utf8}
use Rattle.gabc_places.specs.declared.code.Finding.{Finding}
use Rattle.gabc_places.specs.declared.place.Char.{Char}
use Rattle.gabc_places.specs.declared.place.Place.{Place}
use Rattle.gabc_places.specs.StageLaw.{concat_of}
use Rattle.gabc_places.specs.Place.{placed_characters_from}
use Rattle.gabc_patterns.specs.Function.{trim}
use Rattle.gabc_notes.specs.Table.{gabc}
use Rattle.gabc_notes.specs.Events.{in_raw, kept, opener, end_by_mark, is_end, note_events}
use Rattle.gabc_notes.specs.declared.snippet_read.SnippetEnding.{SnippetEnding}
use Rattle.gabc_notes.specs.declared.snippet_read.SnippetEnding.TheVariants.{Next, Close, Cut}
use Rattle.gabc_notes.specs.declared.snippet_read.SnippetRead.{SnippetRead}
use Rattle.gabc_notes.specs.declared.stage.NoteEnd.{NoteEnd}
use Rattle.gabc_notes.specs.declared.stage.NoteEnd.TheVariants as end
use Rattle.gabc_notes.specs.declared.stage.NoteEvent.{NoteEvent}
use Rattle.gabc_notes.specs.declared.stage.NoteEvent.TheVariants.{Kept, Found, Ended}

-- the characters that are emitted as kept
abbrev pub kept_of : List NoteEvent → List ℕ
kept_of [] = []
kept_of (Kept x ∷ emitted) = x.c ∷ kept_of emitted
kept_of (o ∷ emitted) = kept_of emitted

-- those characters, each with its place
abbrev pub kept_chars_of : List NoteEvent → List Char
kept_chars_of [] = []
kept_chars_of (Kept x ∷ events) = x ∷ kept_chars_of events
kept_chars_of (event ∷ events) = kept_chars_of events

-- the findings, in order
abbrev pub findings_of : List NoteEvent → List Finding
findings_of [] = []
findings_of (Found f ∷ emitted) = f ∷ findings_of emitted
findings_of (o ∷ emitted) = findings_of emitted

-- the ends that are emitted, and the bytes with them
abbrev pub ends_of : List NoteEvent → List (NoteEnd × ℕ)
ends_of [] = []
ends_of (Ended how bytes ∷ emitted) = (how, bytes) ∷ ends_of emitted
ends_of (o ∷ emitted) = ends_of emitted

-- the stop of a snippet: the characters before its end, the nearest first, and the mark that ends
-- it, if there is one
pub record SnippetStop : Type 0 where
  pub back : List Char
  pub mark : Option ℕ

-- of these characters after those: at the first mark that ends the snippet
abbrev pub stop_after : Bool → List Char → List Char → SnippetStop
stop_after split back [] = record { back = back; mark = None }
stop_after split back (x ∷ xs) =
    if is_end split (record { back = back; here = x }) then record { back = back; mark = Some x.c } else stop_after split (x ∷ back) xs

-- the kept text, without an unfinished end if the snippet ended
abbrev pub kept_by : Option ℕ → List Char → List ℕ
kept_by None back = kept back
kept_by (Some c) back = trim gabc (kept back)

-- the characters of the kept text, each with its place: of those that are emitted as kept as many
-- as it has
abbrev pub kept_chars_in : Bool → ℕ → List Char → List Char
kept_chars_in split macros xs = let s = stop_after split [] xs in take (length (kept_by s.mark s.back)) (kept_chars_of (concat_of (note_events split macros xs)))

-- the bytes of these characters
abbrev pub index_of : List Char → ℕ
index_of back = sum_by (λ (x : Char). len_utf8 x.c) back

-- its end, as a stage emits it: at a mark; cut with the place of the open bracket
abbrev pub end_by : Option ℕ → List Char → NoteEnd
end_by None back = end.Cut (if in_raw (kept back) then opener back else record { line = 0; column = 0 })
end_by (Some c) back = end_by_mark c

-- the end of a snippet whose stage emitted this end at that byte
abbrev pub ending_at : NoteEnd → ℕ → SnippetEnding
ending_at end.Next index = Next index
ending_at end.Close index = Close index
ending_at (end.Cut place) index = Cut place

-- its end: at the byte of the mark, or cut
abbrev pub ending_by : Option ℕ → List Char → SnippetEnding
ending_by mark back = ending_at (end_by mark back) (index_of back)

-- the reading of a text that begins at this place is computed so
pub record IsComputed (at : Place) (split : Bool) (macros : ℕ) (text : List ℕ) (read : SnippetRead) : Type 0 where
  pub kept_is : string_bytes read.kept ≡ encode_utf8_all (let s = stop_after split [] (placed_characters_from at text) in kept_by s.mark s.back)
  pub findings_are : read.findings ≡ findings_of (concat_of (note_events split macros (placed_characters_from at text)))
  pub how_is : read.how ≡ (let s = stop_after split [] (placed_characters_from at text) in ending_by s.mark s.back)
