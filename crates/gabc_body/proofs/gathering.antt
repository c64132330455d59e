pub mod BuilderHoldsDefinition
pub mod EndOfBody
pub mod EventsOfOnePoint
pub mod FirstKinds
pub mod FirstNotes
