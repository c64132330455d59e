pub mod Kind
pub mod Node
