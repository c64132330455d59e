pub mod FindingsLieBeforeBody
pub mod FindingsAreInOrder
pub mod FoundBeforeAPoint
