pub mod EmittedByRelations
pub mod KeptByRelations
pub mod LawsOfEvents
pub mod ReadByRelations
pub mod SnippetIsReadAgain
