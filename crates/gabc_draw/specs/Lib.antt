pub mod Drawn
pub mod Pitches
pub mod machine
