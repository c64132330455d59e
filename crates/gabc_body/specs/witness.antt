pub mod BodyBuilder
pub mod EmittedScore
pub mod Gatherer
pub mod PartsByKept
pub mod SyllableBuilder
pub mod TextEvents
pub mod TextsByKept
