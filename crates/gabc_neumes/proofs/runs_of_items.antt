pub mod InnerSpacings
pub mod NotesOfFirstSegment
pub mod RunsAreOne
pub mod RunsHoldWhatPasses
pub mod RunsOneByOne
