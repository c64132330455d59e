pub mod HeldTexts
pub mod Lengths
pub mod Reading
pub mod Tests
