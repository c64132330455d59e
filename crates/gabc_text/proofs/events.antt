pub mod EventsBuildText
pub mod EventsByPointAreEvents
pub mod TextEndsOnce
