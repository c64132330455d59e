pub mod CasesOfCharacters
pub mod CountsOfTexts
pub mod PrefixBeforeTag
pub mod RawEndingIsMatched
pub mod TextIsTokensAndRest
pub mod TokensByBytes
pub mod TokensByCharacter
pub mod TokensSpellPrefix
