-- Stages that differ in places, and in whether a comment is open.
use Rattle.std.specs.Prelude.{◌≡◌, ◌||◌, ℕ, List, [], ◌∷◌, ◌++◌, true, Option, option_to_list}
use Rattle.gabc_places.specs.declared.place.Place.{Place}
use Rattle.gabc_text.specs.declared.token_state.TokenState.{TokenState}
use Rattle.gabc_text.specs.declared.token_state.TokenState.TheVariants.{Plain, Comment}
use Rattle.gabc_text.specs.declared.stage.TextStage.{TextStage}
use Rattle.gabc_text.specs.machine.StageReports.{is_comment}
use Rattle.gabc_text.specs.machine.TokenState.{keep, is_plain}
use Rattle.gabc_text.specs.machine.TextStage.{settle_stage, push_stage}

abbrev pub nowhere : Place
nowhere = record { line = 0; column = 0 }

-- the same at other places
abbrev pub placed : Place → Place → TextStage → TextStage
placed at next s = record s { progress = record s.progress { place = at; next = next } }

-- after a comment
abbrev pub outside : TokenState → TokenState
outside Comment = Plain
outside m = m

abbrev pub uncommented : TextStage → TextStage
uncommented s = record s { state = outside s.state }

-- `r` is in the state of `s`, but for places and a comment
pub record IsAlike (s r : TextStage) : Type 0 where
  pub place : Place
  pub next : Place
  pub same : r ≡ placed place next (uncommented s)

-- The invariant of every stage that has read a text.
pub record IsReached (s : TextStage) : Type 0 where
  pub between : is_plain s.state ≡ true → s.progress.place ≡ s.progress.next
  pub start : (is_plain s.state || is_comment s.state) ≡ true → s.progress.start ≡ s.progress.kept
  pub blank : s.facts.space ≡ true → s.facts.blank ≡ true
  pub starts : s.facts.space ≡ true → (s.facts.word || s.facts.starts) ≡ true

-- the character kept at the next one, if that does not end the text
abbrev pub kept_at : TextStage → ℕ → Option ℕ
kept_at s c = keep (settle_stage s c).facts (settle_stage s c).state c

-- the characters kept at these, none of which ends the text
abbrev pub kept_past : TextStage → List ℕ → List ℕ
kept_past s [] = []
kept_past s (c ∷ t) = option_to_list (kept_at s c) ++ kept_past (push_stage s c) t
