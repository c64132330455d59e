-- The command by which words are read: options with a value, flags, and one word that is no option.
use Rattle.std.specs.Prelude.{ℕ, [], ◌∷◌, Some, true, codes}
use Rattle.clap.specs.Words.{App, Rule, Text, new_rule}
use Rattle.clap.specs.Simple.{new_shape}
use Rattle.clap.specs.declared.builder.ArgAction.TheVariants.{Set, SetTrue}
use Rattle.gregorio_jobs.specs.declared.arguments.TheConstants.{FORMAT, OUTPUT, MESSAGES, STDIN, STDOUT, WARNINGS, HELP, FILE}

abbrev pub option_rule : Text → ℕ → Rule
option_rule id letter = record (new_rule id) { short = Some letter; action = Some Set }

abbrev pub flag_rule : Text → ℕ → Rule
flag_rule id letter = record (new_rule id) { short = Some letter; action = Some SetTrue }

abbrev pub file_rule : Rule
file_rule = record (new_rule FILE.now) { action = Some Set }

-- Each with the code point of its letter: `-F` (70), `-o` (111) and `-l` (108) take a value; `-s`
-- (115), `-S` (83), `-W` (87) and `-h` (104) are flags. There is no other help, and no version.
abbrev pub gregorio_command : App
gregorio_command = record {
  top = record (new_shape (codes "gregorio")) {
    rules = option_rule FORMAT.now 70 ∷ option_rule OUTPUT.now 111 ∷ option_rule MESSAGES.now 108
        ∷ flag_rule STDIN.now 115 ∷ flag_rule STDOUT.now 83 ∷ flag_rule WARNINGS.now 87 ∷ flag_rule HELP.now 104 ∷ file_rule ∷ [];
    no_binary_name = true;
    disable_help_flag = true;
  };
  subs = [];
}
