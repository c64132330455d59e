-- The rows of a picture, one after the other.
use Rattle.std.proofs.Common.{◌≡◌, ◌+◌, ◌-◌, ◌++◌, ◌∷◌, List, ℕ, length, drop, length-drop, arith}
use Rattle.std.proofs.lemmas.List.{drop-drop}
use Rattle.gabc_marks.specs.declared.picture.Part.{Part}
use Rattle.gabc_marks.specs.declared.picture.Row.{Row}
use Rattle.gabc_svg.proofs.Written.{written-and_then}
use Rattle.gabc_svg.specs.Page.{parts_in, parts_here, row_content, rows_content}
use Rattle.gabc_svg.specs.Xml.{written}

-- a row has its parts of those after the passed ones, and the other rows have the rest
pub one_row : (row : Row) (more : List Row) (parts : List Part) (passed : ℕ)
    → written (rows_content (row ∷ more) (drop passed parts))
    ≡ written (row_content row (parts_here row more parts passed))
    ++ written (rows_content more (drop (passed + parts_in row more (length parts - passed)) parts))
one_row row more parts passed = grind (arith, written-and_then, length-drop {A = Part}, drop-drop {A = Part})
