pub mod BookIsThatOfItsEntries
pub mod EntriesAreTrimmed
pub mod LinesOfTexts
pub mod MarksInTexts
pub mod PrintedBookIsReadAgain
pub mod PrintedLinesAreGroups
pub mod TrimmedTexts
