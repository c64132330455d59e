-- The answers of steps: what is made is in the caller's buffers, or nothing is written.
use Rattle.std.specs.Prelude.{◌≡◌, ℕ, ◌≤◌, ◌⊎◌, ◌++◌, List, [], length, drop}
use Rattle.gabc_places.specs.declared.limits.Limits.{Limits}
use Rattle.gregorio_jobs.specs.declared.job.Job.{Job}
use Rattle.gregorio.specs.SavedState.{IsOfAnother, IsState}
use Rattle.gregorio.specs.declared.source_ending.SourceEnding.{SourceEnding}
use Rattle.gregorio_c.specs.Steps.{Begins, Ends, Feeds, Made}
use Rattle.gregorio_c.specs.declared.lengths.Lengths.{Lengths}
use Rattle.gregorio_c.specs.declared.step.Step.{Step}

-- a buffer before and after a call
pub record Buffer : Type 0 where
  pub old : List ℕ
  pub new : List ℕ

abbrev pub used : List ℕ → List ℕ → Buffer
used old new = record { old = old; new = new }

abbrev pub HasRoom : Buffer → List ℕ → Type 0
HasRoom b text = length text ≤ length b.old

-- the text is at its head
abbrev pub IsFilled : Buffer → List ℕ → Type 0
IsFilled b text = b.new ≡ text ++ drop (length text) b.old

abbrev pub IsKept : Buffer → Type 0
IsKept b = b.new ≡ b.old

-- ---- what is made

pub record AllHaveRoom (made : Made) (state output messages : Buffer) : Type 0 where
  pub state_fits : HasRoom state made.state
  pub output_fits : HasRoom output made.output
  pub lines_fit : HasRoom messages made.lines

pub record AllAreFilled (made : Made) (state output messages : Buffer) (result : ℕ) : Type 0 where
  pub state_is : IsFilled state made.state
  pub output_is : IsFilled output made.output
  pub lines_are : IsFilled messages made.lines
  pub number : result ≡ made.number

pub record AllAreKept (state output messages : Buffer) (result : ℕ) : Type 0 where
  pub state_is : IsKept state
  pub output_is : IsKept output
  pub lines_are : IsKept messages
  pub number : result ≡ 7

-- There is room for all that is made, and it is in the buffers; or there is not, and these are as
-- they were.
abbrev pub IsHandedOut : Made → Buffer → Buffer → Buffer → ℕ → Type 0
IsHandedOut made state output messages result =
    (AllHaveRoom made state output messages × AllAreFilled made state output messages result)
    ⊎ ((AllHaveRoom made state output messages → ⊥) × AllAreKept state output messages result)

-- the lengths of what is made
abbrev pub step_of : Made → Step
step_of made = record { state = length made.state; output = length made.output; messages = length made.lines }

abbrev pub lengths_of : Made → Lengths
lengths_of made = record { output = length made.output; messages = length made.lines }

-- ---- what is not made

-- the number of an answer with which nothing is written
abbrev pub IsRefusal : ℕ → Type 0
IsRefusal result = (result ≡ 3) ⊎ ((result ≡ 5) ⊎ (8 ≤ result))

-- Why no step is made of these bytes: there is no memory, they are no state, or they are one of
-- another run.
abbrev pub IsReason : Job → Limits → List ℕ → ℕ → Type 0
IsReason job limits before result =
    (result ≡ 5) ⊎ (((result ≡ 8) × (IsState before → ⊥)) ⊎ ((result ≡ 9) × IsOfAnother job limits before))

-- ---- the answers

-- The first step was made, and handed out.
pub record BeginAnswer (job : Job) (limits : Limits) (state : Buffer) (step : Step) (result : ℕ) : Type 0 where
  pub made : Made
  pub begins : Begins job limits made
  pub lengths : step ≡ step_of made
  pub handed : IsHandedOut made state (used [] []) (used [] []) result

-- A step was made of a piece, and handed out.
pub record FeedAnswer (job : Job) (limits : Limits) (before piece : List ℕ) (state output messages : Buffer) (step : Step) (result : ℕ) : Type 0 where
  pub made : Made
  pub feeds : Feeds job limits before piece made
  pub lengths : step ≡ step_of made
  pub handed : IsHandedOut made state output messages result

-- The last step was made of such an end of the input, and handed out.
pub record EndAnswer (job : Job) (limits : Limits) (ending : SourceEnding) (before : List ℕ) (output messages : Buffer) (lengths : Lengths) (result : ℕ) : Type 0 where
  pub made : Made
  pub ends : Ends job limits ending before made
  pub lengths_are : lengths ≡ lengths_of made
  pub handed : IsHandedOut made (used [] []) output messages result
