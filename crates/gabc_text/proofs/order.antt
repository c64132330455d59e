pub mod FindingsAreInOrder
pub mod FindingsLieWithin
pub mod FindingsOfEvents
