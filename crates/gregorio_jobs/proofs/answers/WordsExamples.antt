-- What lists of words want, written out.
use Rattle.std.proofs.Common.{◌≡◌, false, true, [], ◌∷◌, Some, None, Ok, Err, codes, refl}
use Rattle.clap.proofs.OnLiterals.{clap_on_literals}
use Rattle.gregorio_jobs.specs.declared.job.Format.TheVariants.{Gabc, Dump}
use Rattle.gregorio_jobs.specs.declared.job.Input.TheVariants.{Stdin, File as InputFile}
use Rattle.gregorio_jobs.specs.declared.job.Output.TheVariants.{Stdout, File as OutputFile}
use Rattle.gregorio_jobs.specs.declared.job.Plan.TheVariants.{Help, Run}
use Rattle.gregorio_jobs.specs.declared.refusal.Refusal.TheVariants.{O1, O2, O3, O4, O5, O6, O7}
use Rattle.gregorio_jobs.specs.Wants.{wants}

no_format : wants (codes "-S" ∷ codes "x.gabc" ∷ []) ≡ Err O2
unfolding clap_on_literals
no_format = refl

other_format : wants (codes "-F" ∷ codes "gtex" ∷ codes "-s" ∷ []) ≡ Err O3
unfolding clap_on_literals
other_format = refl

two_inputs : wants (codes "-F" ∷ codes "gabc" ∷ codes "-s" ∷ codes "x.gabc" ∷ []) ≡ Err O4
unfolding clap_on_literals
two_inputs = refl

no_input : wants (codes "-F" ∷ codes "gabc" ∷ []) ≡ Err O5
unfolding clap_on_literals
no_input = refl

two_outputs : wants (codes "-F" ∷ codes "gabc" ∷ codes "-s" ∷ codes "-o" ∷ codes "y" ∷ codes "-S" ∷ []) ≡ Err O6
unfolding clap_on_literals
two_outputs = refl

no_output : wants (codes "-F" ∷ codes "gabc" ∷ codes "x.gabc" ∷ []) ≡ Err O7
unfolding clap_on_literals
no_output = refl

-- the first refusal counts: two inputs and two outputs
first_of_two : wants (codes "-F" ∷ codes "gabc" ∷ codes "-s" ∷ codes "x" ∷ codes "-o" ∷ codes "y" ∷ codes "-S" ∷ []) ≡ Err O4
unfolding clap_on_literals
first_of_two = refl

not_understood : wants (codes "-Q" ∷ []) ≡ Err O1
unfolding clap_on_literals
not_understood = refl

given_twice : wants (codes "-W" ∷ codes "-F" ∷ codes "gabc" ∷ codes "-W" ∷ codes "-s" ∷ []) ≡ Err O1
unfolding clap_on_literals
given_twice = refl

no_version : wants (codes "-h" ∷ codes "-V" ∷ []) ≡ Err O1
unfolding clap_on_literals
no_version = refl

help_wins : wants (codes "-h" ∷ codes "-F" ∷ codes "gtex" ∷ []) ≡ Ok Help
unfolding clap_on_literals
help_wins = refl

dump_to_stdout : wants (codes "-F" ∷ codes "dump" ∷ codes "-s" ∷ [])
    ≡ Ok (Run (record { format = Dump; input = Stdin; output = Stdout; messages = None; all_warnings = false }))
unfolding clap_on_literals
dump_to_stdout = refl

-- the value of an option may be written with it, flags may stand together, and after `--` all words are files
all_given : wants (codes "-WFgabc" ∷ codes "-o=y" ∷ codes "-l" ∷ codes "m" ∷ codes "--" ∷ codes "-s" ∷ [])
    ≡ Ok (Run (record { format = Gabc; input = InputFile (codes "-s"); output = OutputFile (codes "y"); messages = Some (codes "m"); all_warnings = true }))
unfolding clap_on_literals
all_given = refl

hyphen_is_a_file : wants (codes "-F" ∷ codes "gabc" ∷ codes "-S" ∷ codes "-" ∷ [])
    ≡ Ok (Run (record { format = Gabc; input = InputFile (codes "-"); output = Stdout; messages = None; all_warnings = false }))
unfolding clap_on_literals
hyphen_is_a_file = refl
