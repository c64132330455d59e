-- The laws of the stages of texts and snippets by which a kept text is read again.
use Rattle.std.specs.Prelude.{◌≡◌, ℕ, ◌+◌, List, [], ◌∷◌, ◌++◌, length, Bool, true, false, is_some}
use Rattle.gabc_places.specs.declared.place.Char.{Char}
use Rattle.gabc_places.specs.declared.place.Place.{Place}
use Rattle.gabc_text.specs.StageReports as text_tells
use Rattle.gabc_text.specs.TextStage.{fresh_stage}
use Rattle.gabc_text.specs.declared.stage.TextStage.{TextStage}
use Rattle.gabc_text.specs.witness.EventsLeft as text_events
use Rattle.gabc_text.specs.witness.Keeps as text
use Rattle.gabc_notes.specs.Events.{in_raw}
use Rattle.gabc_notes.specs.StageReports as note_tells
use Rattle.gabc_notes.specs.declared.stage.NoteStage.{NoteStage}
use Rattle.gabc_notes.specs.witness.Keeps as notes
use Rattle.gabc_nabc.specs.declared.stage.NabcStage.{NabcStage}
use Rattle.gabc_nabc.specs.witness.Keeps as nabc

-- Each stage takes a character.
pub record Steps : Type 0 where
  pub text_fresh : (at : Place) → text.Keeps (fresh_stage at) []
  pub text_takes : (s : TextStage) (c : ℕ) → s.ended ≡ false → text.Takes s c
  pub gabc_fresh : (split : Bool) (macros : ℕ) → notes.Begins split macros
  pub gabc_takes : (s : NoteStage) (x : Char) → s.ended ≡ false → notes.Takes s x
  pub nabc_fresh : nabc.Begins
  pub nabc_takes : (s : NabcStage) (x : Char) → nabc.Takes s x

-- What is kept is kept again.
pub record Again : Type 0 where
  pub text_kept : (s : TextStage) (a b : List ℕ) (c : ℕ) → text.Keeps s (a ++ c ∷ b) → text.kept_with a c ≡ c ∷ []
  pub text_comments : (k : List ℕ) → text.begins_comment k ≡ true → text.kept_with k 37 ≡ []
  pub text_ends : (k : List ℕ) → text.ends_after_it k ≡ true → text.kept_with k 40 ≡ []
  pub gabc_kept : (split : Bool) (macros : ℕ) (s : NoteStage) (k more : List ℕ) (c : ℕ) → notes.Keeps split macros s (k ++ c ∷ more) → notes.IsKeptAgain split k c

-- The openers, and the place at which the end cuts.
pub record Ends : Type 0 where
  pub text_comment : (s : TextStage) (k : List ℕ) → text.Keeps s k → text_tells.is_in_comment s ≡ true → text.begins_comment k ≡ true
  pub text_opener : (s : TextStage) (k : List ℕ) → text.Keeps s k → is_some (text_tells.opener_of s) ≡ text.is_open_after_text k
  pub text_each : (s : TextStage) (t : List ℕ) → length (text_events.events_left s t) ≡ length t + 1
  pub gabc_opener : (split : Bool) (macros : ℕ) (s : NoteStage) (k : List ℕ) → notes.Keeps split macros s k → is_some (note_tells.opener_of s) ≡ in_raw k
  pub gabc_cut : (s : NoteStage) → s.ended ≡ false → notes.IsCutAtOpener s

-- An opener may be at any place.
pub record Moves : Type 0 where
  pub text_there : (s : TextStage) (k : List ℕ) (at : Place) → text.Keeps s k → is_some (text_tells.opener_of s) ≡ true → text.OpensThere s k at
  pub gabc_there : (split : Bool) (macros : ℕ) (s : NoteStage) (k : List ℕ) (at : Place) → notes.Keeps split macros s k → is_some (note_tells.opener_of s) ≡ true → notes.OpensThere split macros s k at

pub record StageLaws : Type 0 where
  pub steps : Steps
  pub again : Again
  pub ends : Ends
  pub moves : Moves
