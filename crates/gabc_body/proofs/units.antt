pub mod BodyHasOneCutting
pub mod CanonicalTextIsText
pub mod UnitsEndAtMarks
