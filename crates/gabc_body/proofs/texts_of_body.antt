pub mod BodyFits
pub mod SeamsOfCharacters
pub mod SlicesOfTexts
pub mod TextEmitsThroughEnd
pub mod LongerTextKeepsView
