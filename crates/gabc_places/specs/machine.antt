pub mod Decoder
pub mod StageLaw
