pub mod ItemMachine
pub mod Keeps
pub mod NotesByKept
pub mod StageEvents
