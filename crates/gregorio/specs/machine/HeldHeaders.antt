-- Pending headers that are pushed into a fresh stage, and their findings.
use Rattle.std.specs.Prelude.{◌≡◌, ℕ, List, [], Bool, false}
use Rattle.std.specs.List.{All, list_any}
use Rattle.std.specs.Char.{IsScalar}
use Rattle.std.specs.declared.hash.DefaultHasher.{DefaultHasher}
use Rattle.gabc_places.specs.declared.limits.Limits.{Limits}
use Rattle.gabc_places.specs.declared.place.Char.{Char}
use Rattle.gabc_headers.specs.HeldText.{IsHeld, findings_held, inputs_of, text_in}
use Rattle.gabc_headers.specs.declared.head_event.HeadEvent.{HeadEvent}
use Rattle.gabc_headers.specs.declared.head_event.HeadEvent.TheVariants.{Found}
use Rattle.gabc_headers.specs.witness.HeadEvents.{HeadProgress, HeaderStageState, reading, after_headers, over, fresh_stage, stage_past}
use Rattle.gregorio.specs.Outcome.{is_error_finding}

abbrev pub is_error_event : HeadEvent → Bool
is_error_event (Found f) = is_error_finding f
is_error_event event = false

-- The text `u` of a stage in the headers is `t`, which nothing stops but its end; `error` says
-- whether an error is found in it.
pub record IsHeldSo (limits : Limits) (t : List ℕ) (error : Bool) (u : List ℕ) : Type 0 where
  pub text : u ≡ t
  pub held : IsHeld limits t
  pub errors : error ≡ list_any is_error_finding (findings_held limits t)

abbrev pub HoldsSo : Limits → List ℕ → Bool → HeadProgress → Type 0
HoldsSo limits t error (reading u) = IsHeldSo limits t error u
HoldsSo limits t error (after_headers book) = Unit {0}
HoldsSo limits t error over = Unit {0}

-- The characters of this text, at whatever places, were pushed into a fresh stage.
pub record IsPushed (limits : Limits) (hasher : DefaultHasher) (t : List ℕ) (h : HeaderStageState) (error : Bool) : Type 0 where
  pub xs : List Char
  pub text : text_in xs ≡ t
  pub scalars : All IsScalar t
  pub past : h ≡ stage_past (fresh_stage limits hasher) (inputs_of xs)
  pub holds : HoldsSo limits t error h.progress

-- the stage after the line `%%` alone
abbrev pub after_mark : Limits → DefaultHasher → HeaderStageState
after_mark limits hasher = record { limits = limits; progress = after_headers []; book = []; hasher = hasher }
