-- The end of the first line of a syllable.
use Rattle.std.specs.Prelude.{ℕ, List, [], ◌++◌, Bool, codes, if◌then◌else◌}

-- ` eu` and ` nlba` if these spans are open, and the LF
abbrev pub words_of_spans : Bool → Bool → List ℕ
words_of_spans eu nlba = (if eu then codes " eu" else []) ++ ((if nlba then codes " nlba" else []) ++ codes "\n")
