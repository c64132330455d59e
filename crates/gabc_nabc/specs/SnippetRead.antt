-- What `nabc_whole` says of a text.
use Rattle.std.specs.Prelude.{◌≡◌, ◌⊎◌, ℕ, List, [], ◌∷◌, ◌++◌, ◌==◌, if◌then◌else◌, length, take, drop, string_bytes, encode_utf8_all}
use Rattle.gabc_places.specs.declared.code.Code.{Code}
use Rattle.gabc_places.specs.declared.code.Finding.{Finding}
use Rattle.gabc_places.specs.declared.place.Char.{Char}
use Rattle.gabc_places.specs.declared.place.Place.{Place}
use Rattle.gabc_places.specs.StageLaw.{concat_of}
use Rattle.gabc_patterns.specs.Function.{trim}
use Rattle.gabc_notes.specs.declared.snippet_read.SnippetEnding.{SnippetEnding}
use Rattle.gabc_notes.specs.declared.snippet_read.SnippetEnding.TheVariants.{Next, Close, Cut}
use Rattle.gabc_notes.specs.declared.snippet_read.SnippetRead.{SnippetRead}
use Rattle.gabc_notes.specs.declared.stage.NoteEnd.{NoteEnd}
use Rattle.gabc_notes.specs.declared.stage.NoteEnd.TheVariants as end
use Rattle.gabc_notes.specs.SnippetRead.{findings_of, kept_chars_of}
use Rattle.gabc_places.specs.Place.{placed_characters_from}
use Rattle.gabc_nabc.specs.Table.{nabc}
use Rattle.gabc_nabc.specs.Events.{is_end, kept_of, nabc_events}
use Rattle.gabc_notes.specs.Events.{end_by_mark}

-- no finding, or one at that place
abbrev pub AreAtMostOne : Place → List Finding → Type 0
AreAtMostOne p fs = (fs ≡ []) ⊎ ((code : Code) × (fs ≡ record { place = p; code = code } ∷ []))

-- the characters of cs before the one that ends the snippet, where the text stands before them
abbrev pub before_end_after : List ℕ → List ℕ → List ℕ
before_end_after t [] = []
before_end_after t (c ∷ cs) = if is_end t c then [] else c ∷ before_end_after (t ++ c ∷ []) cs

-- the text before the character that ends the snippet, and from that one on
abbrev pub before_end : List ℕ → List ℕ
before_end t = before_end_after [] t

abbrev pub from_end : List ℕ → List ℕ
from_end t = drop (length (before_end t)) t

-- what is kept: of a snippet that is ended the longest prefix that is an NABC snippet, else what
-- was kept so far
abbrev pub kept_before : List ℕ → List ℕ → List ℕ
kept_before prefix [] = kept_of prefix
kept_before prefix (c ∷ cs) = trim nabc (kept_of prefix)

-- the characters of the kept text, each with its place: of those that are emitted as kept as many
-- as it has
abbrev pub kept_chars_in : Place → List ℕ → List Char
kept_chars_in at t = take (length (kept_before (before_end t) (from_end t))) (kept_chars_of (concat_of (nabc_events (placed_characters_from at t))))

-- the end that is emitted where the snippet ends before those characters
abbrev pub end_before : List ℕ → NoteEnd
end_before [] = end.Cut (record { line = 0; column = 0 })
end_before (c ∷ cs) = end_by_mark c

-- how it ends: at the `|` or `)` with the byte where that stands, or the text ends before it
abbrev pub ending_past : List ℕ → List ℕ → SnippetEnding
ending_past prefix [] = Cut (record { line = 0; column = 0 })
ending_past prefix (c ∷ cs) = if c == 124 then Next (length (encode_utf8_all prefix)) else Close (length (encode_utf8_all prefix))

-- So what `nabc_whole` says of a text is computed. The findings are those that a stage emits of the
-- characters, in order.
pub record IsComputed (at : Place) (t : List ℕ) (r : SnippetRead) : Type 0 where
  pub kept_is : string_bytes r.kept ≡ encode_utf8_all (kept_before (before_end t) (from_end t))
  pub findings_are : r.findings ≡ findings_of (concat_of (nabc_events (placed_characters_from at t)))
  pub how_is : r.how ≡ ending_past (before_end t) (from_end t)
