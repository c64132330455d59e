-- What joined groups show is what the one shows, and then what the other shows.
use Rattle.std.proofs.Common.{◌≡◌, ◌++◌, List, append_assoc, append-nil}
use Rattle.std.proofs.lemmas.List.Concat.{flat_map-append}
use Rattle.gabc_marks.specs.Heads.{shown_by_part, shown_by_parts}
use Rattle.gabc_marks.specs.declared.picture.Part.{Part}
use Rattle.gabc_draw.specs.declared.group.Group.{Group}
use Rattle.gabc_draw.specs.machine.Desk.{shown_by_group, shown_by_groups}

pub parts-append : (a b : List Part) → shown_by_parts (a ++ b) ≡ shown_by_parts a ++ shown_by_parts b
parts-append a b = flat_map-append shown_by_part a b

pub groups-append : (a b : List Group) → shown_by_groups (a ++ b) ≡ shown_by_groups a ++ shown_by_groups b
groups-append a b = flat_map-append shown_by_group a b

pub ruleset joined = (parts-append, groups-append, append_assoc, append-nil)
