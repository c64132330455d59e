pub mod BuiltSnippet
pub mod CharClass
pub mod ItemMachine
pub mod Items
pub mod Notes
pub mod Regular
pub mod StageAfter
pub mod StageEvents
