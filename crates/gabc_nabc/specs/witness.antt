pub mod DescriptorMachine
pub mod Keeps
pub mod NabcByKept
