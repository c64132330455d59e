pub mod Conditions
pub mod Fields
pub mod StateBytes
pub mod machine
