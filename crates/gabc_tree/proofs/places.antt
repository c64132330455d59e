pub mod OfBody
pub mod OfHeaders
pub mod OfInput
pub mod OfScore
pub mod OfText
pub mod Walks
