pub mod BuiltNabc
pub mod DescriptorMachine
pub mod Parts
pub mod Regular
