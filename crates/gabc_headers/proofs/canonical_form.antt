pub mod HeaderBytes
pub mod HeadersEndInTwoPercents
pub mod NumbersAreInRange
pub mod WantsLinesLeftToRight
