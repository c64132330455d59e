pub mod DumpOfSpelledSyllables
pub mod ClefsStay
pub mod DumpOfHeadersIsShort
pub mod DumpOfWhatIsSaid
mod DumpExamples
pub mod dump_is_short
pub mod ItemsLineByLine
pub mod NamesAfterFirst
pub mod plain
pub mod reading_again
pub mod SnippetOfPitch
pub mod SnippetOfSignedPitch
