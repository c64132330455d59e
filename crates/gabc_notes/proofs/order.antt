pub mod FindingsAreInOrder
pub mod FindingsLieWithin
