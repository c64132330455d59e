-- The bytes that the calls of a run in pieces put, each after those before.
use Rattle.std.specs.Prelude.{◌≡◌, ◌==◌, ℕ, List, ◌++◌, take, if◌then◌else◌}
use Rattle.gabc_places.specs.declared.limits.Limits.{Limits}
use Rattle.gregorio_jobs.specs.declared.job.Job.{Job}
use Rattle.gregorio.specs.declared.source_ending.SourceEnding.{SourceEnding}
use Rattle.gregorio.specs.Streams.{after_bytes}
use Rattle.gregorio.specs.witness.StandsFor.{StandsFor}
use Rattle.gregorio_c.specs.InPieces.{PutsLast}
use Rattle.gregorio_c.specs.Steps.{Writes, goes_on}
use Rattle.gregorio_c.specs.declared.in_pieces.Fed.{Fed}
use Rattle.gregorio_c.specs.declared.in_pieces.Fed.TheVariants.{On, Over}

-- the state of a run that answered this number, and whose saved state has `len` bytes then
abbrev pub fed_as : ℕ → ℕ → Fed
fed_as number len = if number == goes_on then On len else Over number

module _ {A B : Type 0} (takes : A → List ℕ → A) (takes_too : B → List ℕ → B) where
  -- They have taken the streams that were written of these bytes, and the state stands for the
  -- rest.
  pub record PutsOn (job : Job) (limits : Limits) (left : Writes) (bytes : List ℕ) (o : A) (m : B) (state : List ℕ) (o_then : A) (m_then : B) : Type 0 where
    pub output : List ℕ
    pub lines : List ℕ
    pub rest : Writes
    pub out_is : o_then ≡ takes o output
    pub lines_are : m_then ≡ takes_too m lines
    pub stands : StandsFor job limits state rest
    pub law : (ending : SourceEnding) (more : List ℕ) → left ending (bytes ++ more) ≡ after_bytes output lines (rest ending more)

  abbrev pub PutsFed : Job → Limits → Writes → List ℕ → A → B → List ℕ → A → B → Fed → Type 0
  PutsFed job limits left piece o m state o_then m_then (On len) = PutsOn job limits left piece o m (take len state) o_then m_then
  PutsFed job limits left piece o m state o_then m_then (Over number) = (ending : SourceEnding) (more : List ℕ) → PutsLast takes takes_too (left ending (piece ++ more)) o m o_then m_then number
