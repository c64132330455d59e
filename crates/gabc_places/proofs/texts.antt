pub mod CharactersOfStrings
pub mod LinesAreCutAtReturns
pub mod PlacesOfCharacters
pub mod TextIsReadLineByLine
pub mod TextsAreScalars
pub mod Utf8PrefixIsRead
