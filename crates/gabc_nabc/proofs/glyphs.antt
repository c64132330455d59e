pub mod CodesAreOfGlyphs
pub mod CodesAreTwoLetters
pub mod CodesByPlace
pub mod NameOfFirstRow
