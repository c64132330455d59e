use Rattle.std.specs.Prelude.{ℕ}
use Rattle.gregorio_jobs.specs.declared.job.Status.{Status}
use Rattle.gregorio_jobs.specs.declared.job.Status.TheVariants.{Whole, Errors, Fatal, ReadFault, WriteFault, NoMemory}

-- the exit status of the program
abbrev pub code_of : Status → ℕ
code_of Whole = 0
code_of Errors = 1
code_of Fatal = 2
code_of ReadFault = 4
code_of WriteFault = 4
code_of NoMemory = 5
