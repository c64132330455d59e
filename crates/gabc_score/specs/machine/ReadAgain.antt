-- The step of a part at the next character of a kept text that is read again.
use Rattle.std.specs.Prelude.{◌≡◌, ◌⊎◌, ◌≤◌, ◌<◌, ◌^◌, ◌&&◌, ◌==◌, ℕ, zero, suc, nat_lt, List, [], ◌∷◌, ◌++◌, length, Bool, true, false, Some, None, unwrap_or, encode_utf8_all}
use Rattle.gabc_places.specs.declared.place.Char.{Char}
use Rattle.gabc_places.specs.declared.place.Place.{Place}
use Rattle.gabc_patterns.specs.LongestItems.{IsSnippet}
use Rattle.gabc_text.specs.witness.Keeps as text
use Rattle.gabc_text.specs.witness.StageReports as text_reports
use Rattle.gabc_notes.specs.Events.{in_raw}
use Rattle.gabc_notes.specs.StageReports as notes_reports
use Rattle.gabc_notes.specs.Table.{gabc}
use Rattle.gabc_notes.specs.witness.Keeps as notes
use Rattle.gabc_nabc.specs.Table.{nabc}
use Rattle.gabc_nabc.specs.witness.Keeps as nabc
use Rattle.gabc_score.specs.declared.body_stage.BodyPart.{BodyPart}
use Rattle.gabc_score.specs.declared.body_stage.BodyPart.TheVariants as part
use Rattle.gabc_score.specs.declared.body_tells.Openers.{Openers}
use Rattle.gabc_body.specs.declared.events.BodyEvent.{BodyEvent}
use Rattle.gabc_body.specs.ScoreEvents.{first_place}
use Rattle.gabc_score.specs.ScoreReports.{is_in_comment, is_in_front, openers_of}
use Rattle.gabc_body.specs.witness.BodyBuilder.{with_all}
use Rattle.gabc_body.specs.witness.Gatherer.{Gathered}
use Rattle.gabc_score.specs.machine.PartKeeps.{KeptParts, in_text, in_notes, text_before, joined, line_after, PartKeeps}

-- ---- the next character

-- After the kept text k of a snippet on this line the character c is kept again, or it is the `|`
-- at which the snippet ends.
abbrev pub IsNextIn : ℕ → ℕ → List ℕ → ℕ → Type 0
IsNextIn lines zero k c = notes.IsKeptAgain (nat_lt 0 lines) k c ⊎ ((c ≡ 124) × ((nat_lt 0 lines ≡ true) × IsSnippet gabc k))
IsNextIn lines (suc line) k c = nabc.IsKeptAgain k c ⊎ ((c ≡ 124) × IsSnippet nabc k)

-- After these parts of a kept text the character c is kept again, or it ends the text or the
-- snippet that is read.
abbrev pub IsNext : ℕ → KeptParts → ℕ → Type 0
IsNext lines (in_text k) c = ((text.kept_with k c ≡ c ∷ []) × ((c == 37 && text.begins_comment k) ≡ false)) ⊎ ((c ≡ 40) × (text.ends_after_it k ≡ true))
IsNext lines (in_notes t earlier k) c = IsNextIn lines (line_after lines 0 earlier) k c

-- a `%` after them begins a comment
abbrev pub BeginsIn : ℕ → List ℕ → Type 0
BeginsIn zero k = in_raw k ≡ false
BeginsIn (suc line) k = Unit {0}

abbrev pub BeginsComment : ℕ → KeptParts → Type 0
BeginsComment lines (in_text k) = (text.begins_comment k ≡ true) × (text.kept_with k 37 ≡ [])
BeginsComment lines (in_notes t earlier k) = BeginsIn (line_after lines 0 earlier) k

-- ---- the places of openers

-- the part, with its open brackets at these places
abbrev pub opened_part : Openers → BodyPart → BodyPart
opened_part o part.Comment = part.Comment
opened_part o (part.Text stage) = part.Text (text_reports.opened_at (unwrap_or o.inner first_place) stage)
opened_part o (part.Notes opened stage) = part.Notes (unwrap_or o.notes first_place) (notes_reports.opened_at (unwrap_or o.inner first_place) stage)
opened_part o (part.Nabc line opened stage) = part.Nabc line (unwrap_or o.notes first_place) stage

-- a part in notes whose `(` is at `opened`, in which nothing else is open
abbrev pub OpensNotes : Place → BodyPart → Type 0
OpensNotes opened part = (openers_of part ≡ record { notes = Some opened; inner = None }) × (is_in_comment part ≡ false)

-- ---- the step at a character

-- From `g` to `h` the characters `more` are kept besides, and no syllable becomes whole.
pub record Adds (g h : Gathered) (more : List ℕ) : Type 0 where
  pub kept : h.builder.kept ≡ g.builder.kept ++ encode_utf8_all more
  pub made : h.made ≡ g.made

-- At the character x a part that keeps `p` continues as `after`: it keeps `more` besides, and
-- `comment` says whether a comment is open then.
pub record Reads (before : BodyPart) (p : KeptParts) (x : Char) (more : List ℕ) (comment : Bool) (after : BodyPart) (now : List BodyEvent) : Type 0 where
  pub adds : (g : Gathered) → g.builder.kept ≡ encode_utf8_all (joined p) → g.builder.from ≡ length (encode_utf8_all (text_before p)) → length g.builder.kept < 2 ^ 64 → Adds g (with_all g now) more
  pub comment_is : is_in_comment after ≡ comment
  pub front : is_in_front after ≡ false

-- Outside a comment a part keeps what is kept again, and a comment begins at its `%`.
pub record ReadsAgain (lines macros : ℕ) (x : Char) (before after : BodyPart) (now : List BodyEvent) : Type 0 where
  pub next : (p : KeptParts) → PartKeeps lines macros before p → is_in_comment before ≡ false → IsNext lines p x.c → Reads before p x (x.c ∷ []) false after now
  pub comment : (p : KeptParts) → PartKeeps lines macros before p → is_in_comment before ≡ false → x.c ≡ 37 → BeginsComment lines p → Reads before p x [] true after now

-- A part of the body keeps the parts of this kept text, which is within the limit.
pub record IsReportedBy (lines macros limit : ℕ) (part : BodyPart) (kept : List ℕ) : Type 0 where
  pub parts : KeptParts
  pub keeps : PartKeeps lines macros part parts
  pub is : kept ≡ encode_utf8_all (joined parts)
  pub short : length kept ≤ limit
