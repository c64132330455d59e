pub mod CodesOfLimits
pub mod GivenAreWithin
pub mod KeptSoFar
pub mod LargerLimits
pub mod NoLimitIsPassed
pub mod SyllablesAreFew
pub mod UnitsKeepFew
