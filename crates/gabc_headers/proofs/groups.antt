pub mod BookNeedsScoreLine
pub mod GroupsAreUnique
pub mod GroupsTellParts
pub mod NamesAreShort
pub mod TextBeforeScore
pub mod HeadsAreOfGroups
