pub mod HeadEvents
pub mod Heads
pub mod Parts
