-- The characters around the value of a header on its canonical lines.
use Rattle.std.specs.Prelude.{ℕ, List, [], ◌∷◌, Bool, cond, codes}

abbrev pub before_value : Bool → List ℕ → List ℕ
before_value lined [] = codes ":"
before_value lined (c ∷ v) = cond lined (codes ":\n ") (codes ": ")

abbrev pub after_value : Bool → List ℕ → List ℕ
after_value lined [] = codes ";\n"
after_value lined (c ∷ v) = cond lined (codes ";;\n") (codes ";\n")
