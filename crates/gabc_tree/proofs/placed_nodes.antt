pub mod Ahead
pub mod Fronts
pub mod Appended
pub mod Reaches
pub mod PlacedNested
pub mod Counted
