pub mod LastTagOpensTheSpan
pub mod OpenSpans
pub mod SpansFollowOneAnother
pub mod SyllablesAreThoseOfUnits
pub mod SyllablesOfUnitsExamples
pub mod UnitGivesOneSyllable
pub mod UnitReadExamples
pub mod UnitsGiveSyllables
