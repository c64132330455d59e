pub mod BodyStage
pub mod EmittedAgain
pub mod IsReachable
pub mod ReadAgain
pub mod ScoreStage
