pub mod BodyAfterHeads
pub mod StageAndDefinitionAgree
pub mod TextFromItsBeginning
