pub mod BodyOutputs
pub mod EmittedByHeaders
pub mod GivenSyllables
pub mod NothingAfterTheEnd
pub mod PlainScores
pub mod ScoreOutputs
pub mod WhatOutputsSay
