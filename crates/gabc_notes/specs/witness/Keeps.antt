-- A stage keeps a text: its state is that after the characters that it has kept. Of what it has
-- read nothing else matters but what it reports.
use Rattle.std.specs.Prelude.{◌≡◌, ℕ, List, [], ◌∷◌, ◌++◌, Bool, true, false, not, ◌&&◌, ◌||◌, ◌==◌, if◌then◌else◌, Option, Some, None, unwrap_or, map}
use Rattle.gabc_places.specs.declared.place.Char.{Char}
use Rattle.gabc_places.specs.declared.place.Place.{Place}
use Rattle.gabc_patterns.specs.Derivative.{is_viable}
use Rattle.gabc_patterns.specs.Function.{trim}
use Rattle.gabc_notes.specs.Table.{gabc}
use Rattle.gabc_notes.specs.Events.{in_raw, end_by_mark, bytes_of, note_events}
use Rattle.gabc_notes.specs.SnippetRead.{kept_of, ends_of}
use Rattle.gabc_notes.specs.StageReports.{opener_of, comment_of}
use Rattle.gabc_notes.specs.machine.StageAfter.{aside, fresh_stage, stage_past, AreKept}
use Rattle.gabc_notes.specs.witness.ItemMachine.{events_left}
use Rattle.gabc_notes.specs.declared.stage.NoteEnd.TheVariants.{Cut}
use Rattle.gabc_notes.specs.declared.stage.NoteEvent.{NoteEvent}
use Rattle.gabc_notes.specs.declared.stage.NoteEvent.TheVariants.{Ended}
use Rattle.gabc_notes.specs.declared.stage.NoteStage.{NoteStage}

-- The stage has not ended, and is in the state of a fresh stage that has read k, but for a place
-- and a comment; of k all is kept.
pub record Keeps (split : Bool) (macros : ℕ) (s : NoteStage) (k : List ℕ) : Type 0 where
  pub goes_on : s.ended ≡ false
  pub outside : comment_of s ≡ true → in_raw k ≡ false
  pub alike : aside s ≡ stage_past (fresh_stage split macros) k
  pub whole : AreKept (fresh_stage split macros) k

-- ---- a character c after the kept text k, by whether a comment is open

-- it lies in a comment
abbrev pub is_comment_after : List ℕ → Bool → ℕ → Bool
is_comment_after k comment c = not (c == 10) && (comment || (not (in_raw k) && (c == 37)))

-- it ends the snippet
abbrev pub is_end_after : Bool → List ℕ → Bool → ℕ → Bool
is_end_after split k comment c = not (is_comment_after k comment c) && (not (in_raw k) && ((c == 41) || (split && (c == 124))))

-- the text kept with it
abbrev pub kept_after : List ℕ → Bool → ℕ → List ℕ
kept_after k comment c = if not (is_comment_after k comment c) && is_viable gabc (k ++ c ∷ []) then k ++ c ∷ [] else k

-- the place of the bracket that is open after it, if it is at p: inside raw that of the one open
-- before it, else its own
abbrev pub opener_after : Bool → Option Place → Place → Option Place
opener_after false before p = None
opener_after true (Some q) p = Some q
opener_after true None p = Some p

-- The snippet continues after a character.
pub record GoesOn (split : Bool) (macros : ℕ) (k : List ℕ) (before : NoteStage) (x : Char) (events : List NoteEvent) (after : NoteStage) : Type 0 where
  pub no_end : ends_of events ≡ []
  pub kept : k ++ kept_of events ≡ kept_after k (comment_of before) x.c
  pub keeps : Keeps split macros after (k ++ kept_of events)
  pub comment : comment_of after ≡ is_comment_after k (comment_of before) x.c
  pub opener : opener_of after ≡ opener_after (in_raw (k ++ kept_of events)) (opener_of before) x.place

-- The snippet ends with the bytes of the kept text k without an unfinished end, and nothing is kept
-- with the mark c.
pub record EndsAfter (k : List ℕ) (c : ℕ) (events : List NoteEvent) : Type 0 where
  pub end : ends_of events ≡ (end_by_mark c, bytes_of (trim gabc k)) ∷ []
  pub none_kept : kept_of events ≡ []

-- The step of a stage at a character, by the text that it kept and what it reports: the snippet
-- continues or ends.
pub record KeepsOn (before : NoteStage) (x : Char) (events : List NoteEvent) (after : NoteStage) : Type 0 where
  pub goes : (split : Bool) (macros : ℕ) (k : List ℕ) → Keeps split macros before k → is_end_after split k (comment_of before) x.c ≡ false
      → GoesOn split macros k before x events after
  pub ends : (split : Bool) (macros : ℕ) (k : List ℕ) → Keeps split macros before k → is_end_after split k (comment_of before) x.c ≡ true → EndsAfter k x.c events

-- The step of a stage: it takes a character with these events, and is `after` then.
pub record Steps (before : NoteStage) (x : Char) (events : List NoteEvent) (after : NoteStage) : Type 0 where
  pub emits : (xs : List Char) → events_left before (x ∷ xs) ≡ events ∷ events_left after xs
  pub keeps : KeepsOn before x events after

-- ---- a stage restored

-- the characters of a kept text, each at this place, and a `%` after them if a comment is open
abbrev pub set_down : Place → List ℕ → Bool → List Char
set_down at k comment = map (λ (c : ℕ). record { c = c; place = at }) k ++ (if comment then record { c = 37; place = at } ∷ [] else [])

-- no bracket is open but one at this place
abbrev pub OpensAt : Place → NoteStage → Type 0
OpensAt at s = (place : Place) → opener_of s ≡ Some place → place ≡ at

-- The character c after k is kept again, if no comment is open, and none is open after it.
pub record IsKeptAgain (split : Bool) (k : List ℕ) (c : ℕ) : Type 0 where
  pub no_comment : is_comment_after k false c ≡ false
  pub goes_on : is_end_after split k false c ≡ false
  pub kept : kept_after k false c ≡ k ++ c ∷ []

-- ---- a stage and each character

-- A fresh stage keeps nothing yet.
pub record Begins (split : Bool) (macros : ℕ) : Type 0 where
  pub stage : NoteStage
  pub emits : (xs : List Char) → events_left stage xs ≡ note_events split macros xs
  pub keeps : Keeps split macros stage []
  pub opens_nothing : opener_of stage ≡ None
  pub outside : comment_of stage ≡ false

-- The stage takes a character: it emits these events, is `after` then, and emits from then on what
-- follows them. A `%` that is not kept opens a comment.
pub record Takes (before : NoteStage) (x : Char) : Type 0 where
  pub events : List NoteEvent
  pub after : NoteStage
  pub emits : (xs : List Char) → events_left before (x ∷ xs) ≡ events ∷ events_left after xs
  pub keeps : KeepsOn before x events after
  pub percent : (split : Bool) (macros : ℕ) (k : List ℕ) → Keeps split macros before k → x.c ≡ 37 → kept_of events ≡ [] → comment_of after ≡ true

-- If the characters end before the snippet does, it is cut at the bracket that is open, or at no
-- place.
pub record IsCutAtOpener (s : NoteStage) : Type 0 where
  pub bytes : ℕ
  pub emits : events_left s [] ≡ (Ended (Cut (unwrap_or (opener_of s) (record { line = 0; column = 0 }))) bytes ∷ []) ∷ []

-- Some stage keeps the same, with its bracket at this place.
pub record OpensThere (split : Bool) (macros : ℕ) (s : NoteStage) (k : List ℕ) (at : Place) : Type 0 where
  pub stage : NoteStage
  pub keeps : Keeps split macros stage k
  pub opener : opener_of stage ≡ Some at
  pub comment : comment_of stage ≡ comment_of s
