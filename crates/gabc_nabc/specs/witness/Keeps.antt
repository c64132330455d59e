-- A stage keeps a text: its state is that after the characters that it has kept. Of what it has
-- read nothing else matters but whether a comment is open.
use Rattle.std.specs.Prelude.{◌≡◌, ℕ, List, [], ◌∷◌, ◌++◌, Bool, true, false, not, ◌&&◌, ◌||◌, ◌==◌, if◌then◌else◌}
use Rattle.gabc_places.specs.declared.place.Char.{Char}
use Rattle.gabc_patterns.specs.Pattern.{is_in}
use Rattle.gabc_patterns.specs.Derivative.{is_viable}
use Rattle.gabc_patterns.specs.Function.{trim}
use Rattle.gabc_notes.specs.Events.{end_by_mark}
use Rattle.gabc_notes.specs.SnippetRead.{kept_of, ends_of}
use Rattle.gabc_notes.specs.declared.stage.NoteEvent.{NoteEvent}
use Rattle.gabc_nabc.specs.Table.{nabc}
use Rattle.gabc_nabc.specs.Events.{bytes_in, nabc_events, nabc_events_after}
use Rattle.gabc_nabc.specs.witness.DescriptorMachine.{comment_in, events_left}
use Rattle.gabc_nabc.specs.declared.stage.NabcStage.{NabcStage}

-- a comment is open
abbrev pub comment_of : NabcStage → Bool
comment_of s = s.comment

-- ---- a character c after the kept text k, by whether a comment is open

-- it ends the snippet
abbrev pub is_end_after : Bool → ℕ → Bool
is_end_after comment c = not comment && ((c == 41) || (c == 124))

-- the text kept with it
abbrev pub kept_after : List ℕ → Bool → ℕ → List ℕ
kept_after k comment c =
    if not comment && not (is_in c (37 ∷ 32 ∷ 9 ∷ 10 ∷ [])) then (if is_viable nabc (k ++ c ∷ []) then k ++ c ∷ [] else k) else k

-- it is kept, if no comment is open, and none is open after it
pub record IsKeptAgain (k : List ℕ) (c : ℕ) : Type 0 where
  pub no_comment : comment_in false c ≡ false
  pub goes_on : is_end_after false c ≡ false
  pub kept : kept_after k false c ≡ k ++ c ∷ []

-- ---- a stage after a kept text

-- of k all is kept
abbrev pub IsKeptWhole : List ℕ → Type 0
IsKeptWhole k = (before more : List ℕ) (c : ℕ) → k ≡ before ++ c ∷ more → IsKeptAgain before c

-- k, and a `%` after it if a comment is open
abbrev pub with_comment : List ℕ → Bool → List ℕ
with_comment k comment = if comment then k ++ 37 ∷ [] else k

-- Of whatever follows the stage emits the events after k, and after a `%` if a comment is open; of
-- k all is kept.
pub record Keeps (s : NabcStage) (k : List ℕ) : Type 0 where
  pub whole : IsKeptWhole k
  pub emits : (xs : List Char) → events_left s xs ≡ nabc_events_after (with_comment k (comment_of s)) xs

-- The snippet continues after a character.
pub record GoesOn (k : List ℕ) (before : NabcStage) (x : Char) (events : List NoteEvent) (after : NabcStage) : Type 0 where
  pub no_end : ends_of events ≡ []
  pub kept : k ++ kept_of events ≡ kept_after k (comment_of before) x.c
  pub keeps : Keeps after (k ++ kept_of events)
  pub comment : comment_of after ≡ comment_in (comment_of before) x.c

-- The snippet ends with the bytes of the kept text k without an unfinished end, and nothing is kept
-- with the mark c.
pub record EndsAfter (k : List ℕ) (c : ℕ) (events : List NoteEvent) : Type 0 where
  pub end : ends_of events ≡ (end_by_mark c, bytes_in (trim nabc k)) ∷ []
  pub none_kept : kept_of events ≡ []

-- The step of a stage at a character, by the text that it kept and whether a comment is open: the
-- snippet continues or ends.
pub record KeepsOn (before : NabcStage) (x : Char) (events : List NoteEvent) (after : NabcStage) : Type 0 where
  pub goes : (k : List ℕ) → Keeps before k → is_end_after (comment_of before) x.c ≡ false → GoesOn k before x events after
  pub ends : (k : List ℕ) → Keeps before k → is_end_after (comment_of before) x.c ≡ true → EndsAfter k x.c events

-- The step of a stage: it takes a character with these events, and is `after` then.
pub record Steps (before : NabcStage) (x : Char) (events : List NoteEvent) (after : NabcStage) : Type 0 where
  pub emits : (xs : List Char) → events_left before (x ∷ xs) ≡ events ∷ events_left after xs
  pub keeps : KeepsOn before x events after

-- ---- a stage and each character

-- A fresh stage keeps nothing yet.
pub record Begins : Type 0 where
  pub stage : NabcStage
  pub emits : (xs : List Char) → events_left stage xs ≡ nabc_events xs
  pub keeps : Keeps stage []
  pub outside : comment_of stage ≡ false

-- The stage takes a character: it emits these events, is `after` then, and emits from then on what
-- follows them.
pub record Takes (before : NabcStage) (x : Char) : Type 0 where
  pub events : List NoteEvent
  pub after : NabcStage
  pub emits : (xs : List Char) → events_left before (x ∷ xs) ≡ events ∷ events_left after xs
  pub keeps : KeepsOn before x events after
