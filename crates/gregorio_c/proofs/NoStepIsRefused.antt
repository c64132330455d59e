-- The number of a step that is made is none with which nothing is written.
use Rattle.std.proofs.Common.{◌≡◌, ℕ, ◌≤◌, List, subst, arith}
use Rattle.gabc_places.specs.declared.limits.Limits.{Limits}
use Rattle.gregorio_jobs.specs.declared.job.Job.{Job}
use Rattle.gregorio_jobs.specs.declared.job.Status.{Status}
use Rattle.gregorio_jobs.specs.Status.{code_of}
use Rattle.gregorio.specs.declared.source_ending.SourceEnding.{SourceEnding}
use Rattle.gregorio.specs.Engine.{EndsByInput}
use Rattle.gregorio_c.specs.StepAnswers.{Buffer, IsHandedOut, IsRefusal}
use Rattle.gregorio_c.specs.Steps.{Begins, Ends, Feeds, IsOver, Made, goes_on}
use Rattle.gregorio_c.specs.machine.Steps.{WritesNothing}

none_of : (n : ℕ) → (n ≡ 3 → ⊥) → (n ≡ 5 → ⊥) → (7 ≤ n → ⊥) → WritesNothing n → ⊥
none_of n a b d h = grind arith

by_code : (status : Status) → EndsByInput status → WritesNothing (code_of status) → ⊥
by_code status by = grind (arith, none_of)

on_goes : WritesNothing goes_on → ⊥
on_goes = none_of 6 (λ e. absurd (cc e)) (λ e. absurd (cc e)) (λ h. absurd (omega (arith, h)))

over : (made : Made) (status : Status) → IsOver made status → WritesNothing made.number → ⊥
over made status is nothing = by_code status is.by_input (subst WritesNothing is.number nothing)

module _ (job : Job) (limits : Limits) (made : Made) where
  pub begun_writes : Begins job limits made → WritesNothing made.number → ⊥
  begun_writes is nothing = on_goes (subst WritesNothing is.number nothing)

  pub fed_writes : (before piece : List ℕ) → Feeds job limits before piece made → WritesNothing made.number → ⊥
  fed_writes before piece is nothing =
      let stopped = is.over (λ six. on_goes (subst WritesNothing six nothing)) is.left is.stood in
      over made stopped.status stopped.over nothing

  pub ended_writes : (ending : SourceEnding) (before : List ℕ) → Ends job limits ending before made → WritesNothing made.number → ⊥
  ended_writes ending before is nothing = over made is.status is.over nothing

-- ---- what is answered, whether there is room for all that is made or not

refusal : (n : ℕ) → IsRefusal n → WritesNothing n
refusal n h = grind arith

short : IsRefusal 7 → ⊥
short h = grind arith

handed_out : (made : Made) (state output messages : Buffer) (result : ℕ) → (WritesNothing made.number → ⊥) → IsHandedOut made state output messages result → IsRefusal result → ⊥
handed_out made state output messages result writes h refused = grind (arith, refusal, short)

module _ (job : Job) (limits : Limits) (made : Made) (state output messages : Buffer) (result : ℕ) (h : IsHandedOut made state output messages result) where
  pub fed : (before piece : List ℕ) → Feeds job limits before piece made → IsRefusal result → ⊥
  fed before piece is = handed_out made state output messages result (fed_writes job limits made before piece is) h

  pub ended : (ending : SourceEnding) (before : List ℕ) → Ends job limits ending before made → IsRefusal result → ⊥
  ended ending before is = handed_out made state output messages result (ended_writes job limits made ending before is) h
