-- A stage keeps a text: its state is that after the characters that it has kept, whatever it has
-- read.
use Rattle.std.specs.Prelude.{◌≡◌, ◌≤◌, ◌⊎◌, ◌==◌, ◌&&◌, not, ℕ, List, [], ◌∷◌, ◌++◌, length, map, Bool, true, false, Some, if◌then◌else◌}
use Rattle.std.specs.List.{All, list_any}
use Rattle.gabc_places.specs.Place.{saturating_next_place}
use Rattle.gabc_places.specs.declared.place.Place.{Place}
use Rattle.gabc_text.specs.declared.text_event.TextEnd.TheVariants as ending
use Rattle.gabc_text.specs.declared.text_event.TextPart.{TextPart}
use Rattle.gabc_text.specs.declared.text_event.TextEvent.{TextEvent}
use Rattle.gabc_text.specs.declared.text_event.TextEvent.TheVariants as out
use Rattle.gabc_text.specs.declared.stage.TextStage.{TextStage}
use Rattle.gabc_text.specs.BuiltText.{kept_in}
use Rattle.gabc_text.specs.End.{is_end}
use Rattle.gabc_text.specs.StageReports.{opener_of, is_in_comment}
use Rattle.gabc_text.specs.machine.StageReports.{is_open}
use Rattle.gabc_text.specs.witness.StageReports.{next_of}
use Rattle.gabc_text.specs.TextStage.{fresh_stage}
use Rattle.gabc_text.specs.machine.RawPart.{stage_past, events_of_pushes}
use Rattle.gabc_text.specs.machine.Resuming.{nowhere, IsAlike, IsReached, kept_past}
use Rattle.gabc_text.specs.machine.TextStage.{push_stage, events_of_push}
use Rattle.gabc_text.specs.machine.TokenState.{is_plain}
use Rattle.gabc_text.specs.witness.EventsLeft.{events_left}

-- these events without findings and places: the characters kept, the parts of the view and the end
abbrev pub said : List TextEvent → List TextEvent
said [] = []
said (out.Kept x ∷ os) = out.Kept (record { c = x.c; place = nowhere }) ∷ said os
said (out.Part p ∷ os) = out.Part p ∷ said os
said (out.Found f ∷ os) = said os
said (out.Ended h ∷ os) = out.Ended h ∷ said os

-- the end of the text is among these
abbrev pub end_text : List TextEvent → Bool
end_text events = list_any is_end events

-- a fresh stage that has read a text
abbrev pub stage_after : List ℕ → TextStage
stage_after k = stage_past (fresh_stage nowhere) k

-- The stage has not ended, and is in the state of a fresh stage that has read k, but for places and
-- a comment; of k all is kept.
pub record Keeps (s : TextStage) (k : List ℕ) : Type 0 where
  pub goes_on : s.ended ≡ false
  pub reached : IsReached s
  pub alike : IsAlike s (stage_after k)
  pub whole : kept_past (fresh_stage nowhere) k ≡ k

-- ---- the consequences of the text that is kept

-- the events of the text, without findings and places
unfoldable pub said_of : List ℕ → List TextEvent
said_of k = said (events_of_pushes (fresh_stage nowhere) k)

-- a tag, a raw part or a translation is open after it
unfoldable pub is_open_after_text : List ℕ → Bool
is_open_after_text k = is_open (stage_after k).state

-- a `%` after it begins a comment
unfoldable pub begins_comment : List ℕ → Bool
begins_comment k = is_plain (stage_after k).state

-- the character kept at the next one, if no comment is open
unfoldable pub kept_with : List ℕ → ℕ → List ℕ
kept_with k c = kept_in (events_of_push (stage_after k) c)

-- a `(` after it ends the text, if no comment is open; and the events of this end, without findings
-- and places
unfoldable pub ends_after_it : List ℕ → Bool
ends_after_it k = (push_stage (stage_after k) 40).ended

unfoldable pub said_at_end : List ℕ → List TextEvent
said_at_end k = said (events_of_push (stage_after k) 40)

-- a comment is open after a character: as one was, up to an LF, or as a `%` begins one
abbrev pub comment_with : List ℕ → Bool → ℕ → Bool
comment_with k is_open c = if is_open then not (c == 10) else (c == 37 && begins_comment k)

-- ---- the step at a character

-- The text k continues with a character: the stage keeps k and what is kept of the character. The
-- opener is the one before, or the character.
pub record GoesOn (before : TextStage) (k : List ℕ) (c : ℕ) (events : List TextEvent) (after : TextStage) : Type 0 where
  pub keeps : Keeps after (k ++ kept_in events)
  pub said : said_of (k ++ kept_in events) ≡ said_of k ++ said events
  pub opener : (p : Place) → opener_of after ≡ Some p → (opener_of before ≡ Some p) ⊎ (next_of before ≡ p)
  pub comment : is_in_comment after ≡ comment_with k (is_in_comment before) c
  pub next : next_of after ≡ saturating_next_place (next_of before) c

-- these are parts, and then the end of a text at its `(`
pub record EndsInNotes (events : List TextEvent) : Type 0 where
  pub parts : List TextPart
  pub is : events ≡ map (λ (p : TextPart). out.Part p) parts ++ out.Ended ending.Notes ∷ []

-- The text k ends with a character: nothing is kept, and the stage keeps no text any more.
pub record EndsAfter (k : List ℕ) (events : List TextEvent) (after : TextStage) : Type 0 where
  pub kept : kept_in events ≡ []
  pub said : said events ≡ said_at_end k
  pub notes : EndsInNotes (said_at_end k)
  pub over : after.ended ≡ true

-- the character kept at `c` is `c` itself, or a blank
abbrev pub IsKeptOf : ℕ → ℕ → Type 0
IsKeptOf c d = (d ≡ c) ⊎ (d ≡ 32)

-- A character, by the text that a stage keeps: whether it ends the text, what is kept of it, and
-- how the text continues or ends.
pub record KeepsOn (before : TextStage) (c : ℕ) (events : List TextEvent) (after : TextStage) : Type 0 where
  pub end : (k : List ℕ) → Keeps before k → end_text events ≡ (not (is_in_comment before) && (c == 40 && ends_after_it k))
  pub kept : (k : List ℕ) → Keeps before k → is_in_comment before ≡ false → kept_in events ≡ kept_with k c
  pub goes : (k : List ℕ) → Keeps before k → end_text events ≡ false → GoesOn before k c events after
  pub ends : (k : List ℕ) → Keeps before k → end_text events ≡ true → EndsAfter k events after
  pub only : (k : List ℕ) → Keeps before k → All (IsKeptOf c) (kept_in events)

-- The stage takes a character: it emits these events, is `after` then, and emits from then on what
-- follows them. No more than one character is kept, and none if a comment is open then. A `%` that
-- is not kept opens one.
pub record Takes (before : TextStage) (c : ℕ) : Type 0 where
  pub events : List TextEvent
  pub after : TextStage
  pub emits : (t : List ℕ) → events_left before (c ∷ t) ≡ events ∷ events_left after t
  pub keeps : KeepsOn before c events after
  pub one : (k : List ℕ) → Keeps before k → length (kept_in events) ≤ 1
  pub none : (k : List ℕ) → Keeps before k → is_in_comment after ≡ true → kept_in events ≡ []
  pub percent : (k : List ℕ) → Keeps before k → c ≡ 37 → kept_in events ≡ [] → is_in_comment after ≡ true

-- Some stage keeps the same, with its opener at this place.
pub record OpensThere (s : TextStage) (k : List ℕ) (at : Place) : Type 0 where
  pub stage : TextStage
  pub keeps : Keeps stage k
  pub opener : opener_of stage ≡ Some at
  pub comment : is_in_comment stage ≡ is_in_comment s
