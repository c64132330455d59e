pub mod NotesFates
pub mod NotesFound
pub mod NotesMacros
pub mod NotesSound
pub mod NotesViable
pub mod NotesWalk
pub mod SoundsHaveLetters
