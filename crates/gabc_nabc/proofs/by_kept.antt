pub mod NabcFates
pub mod NabcViable
