pub mod Engine
pub mod CanRun
pub mod StandsFor
pub mod EmittedOutcome
