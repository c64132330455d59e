pub mod PartsAreAUnit
pub mod ScoreHoldsParts
pub mod SeamsOfText
pub mod SnippetsLieInKeptText
pub mod SpansBetweenCharacters
pub mod SyllableHoldsPartByPart
pub mod SyllablesHoldParts
