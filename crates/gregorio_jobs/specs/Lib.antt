pub mod Arguments
pub mod Refusal
pub mod Status
pub mod Wants
pub mod machine
