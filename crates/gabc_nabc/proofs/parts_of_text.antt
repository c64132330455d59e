pub mod FirstPartIsFound
pub mod PartsAreTheReading
pub mod PartsByBytes
