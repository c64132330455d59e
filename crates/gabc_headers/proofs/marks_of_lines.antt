pub mod PrefixOfMark
pub mod RunByCharacter
