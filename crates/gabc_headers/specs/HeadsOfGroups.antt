-- The headers of a whole text, by the one cutting of its lines into groups.
use Rattle.std.specs.Prelude.{◌≡◌, ℕ, List, Result}
use Rattle.gabc_places.specs.declared.limits.Limits.{Limits}
use Rattle.gabc_headers.specs.declared.heads.Heads.{Heads}
use Rattle.gabc_headers.specs.declared.heads.HeadFault.{HeadFault}
use Rattle.gabc_headers.specs.Lines.{lines, head_of}
use Rattle.gabc_headers.specs.Groups.{Group, AreGroups, parts_of_groups}
use Rattle.gabc_headers.specs.Heads.{heads_of_parts}

-- What is read is what the groups of the lines before the line `%%`, or of all lines, report.
pub record AreHeads (limits : Limits) (t : List ℕ) (read : Result Heads HeadFault) : Type 0 where
  pub groups : List Group
  pub are : AreGroups (head_of (lines t)) groups
  pub read_is : read ≡ heads_of_parts limits t (parts_of_groups 1 0 groups)
