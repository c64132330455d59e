-- The headers of a text are those that the groups of its lines report.
use Rattle.std.proofs.Common.{◌≡◌, List, ℕ, Result, ap, sym, subst, ◌∙◌}
use Rattle.gabc_places.specs.declared.limits.Limits.{Limits}
use Rattle.gabc_headers.specs.declared.heads.Heads.{Heads}
use Rattle.gabc_headers.specs.declared.heads.HeadFault.{HeadFault}
use Rattle.gabc_headers.specs.Heads.{heads_of, heads_of_parts}
use Rattle.gabc_headers.specs.HeadsOfGroups.{AreHeads}
use Rattle.gabc_headers.specs.Lines.{lines, head_of}
use Rattle.gabc_headers.proofs.groups.GroupsAreUnique.{some_groups}
use Rattle.gabc_headers.proofs.groups.GroupsTellParts.{groups_tell}

pub heads_are : (limits : Limits) (t : List ℕ) → AreHeads limits t (heads_of limits t)
heads_are limits t =
    let g = some_groups (head_of (lines t)) in
    record {
      groups = g.0;
      are = g.1;
      read_is = ap (heads_of_parts limits t) (groups_tell g.0 1 0 (head_of (lines t)) g.1);
    }

pub one_reading : (limits : Limits) (t : List ℕ) (read : Result Heads HeadFault) → AreHeads limits t read → read ≡ heads_of limits t
one_reading limits t read h = h.read_is ∙ sym (ap (heads_of_parts limits t) (groups_tell h.groups 1 0 (head_of (lines t)) h.are))

pub of_groups : (limits : Limits) (t : List ℕ) (read : Result Heads HeadFault) → read ≡ heads_of limits t → AreHeads limits t read
of_groups limits t read e = subst (AreHeads limits t) (sym e) (heads_are limits t)
