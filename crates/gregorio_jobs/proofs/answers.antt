pub mod AnswersByStep
pub mod ArgumentsByRows
pub mod PlanByMatches
pub mod AnswersOfResult
mod WordsExamples
