pub mod FirstLine
pub mod DumpOfTexts
pub mod NamesAfterFirst
pub mod NoteLines
pub mod SetDown
pub mod TextLine
