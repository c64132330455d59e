pub mod ClosedWithin
pub mod NothingIsKeptAtTheEnd
pub mod PrefixHasTheSameUnits
pub mod ScoreOfThePrefix
pub mod StoppedScoreIsThatOfItsPrefix
pub mod StoppedScores
pub mod WholePrefixesAreFronts
pub mod WholeScores
