-- What the program ends with where it refuses its words.
use Rattle.std.specs.Prelude.{ℕ}
use Rattle.gregorio_jobs.specs.declared.refusal.Refusal.{Refusal}
use Rattle.gregorio_jobs.specs.declared.refusal.Refusal.TheVariants.{O0}

-- the exit status of the program
abbrev pub code_of : Refusal → ℕ
code_of O0 = 5
code_of refusal = 3
