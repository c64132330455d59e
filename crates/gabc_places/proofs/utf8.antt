pub mod CharacterByCharacter
pub mod PartOfACharacter
