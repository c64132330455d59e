pub mod BookIsPlain
pub mod KeptSnippetsArePlain
pub mod PlainCharacters
pub mod PrintedSyllableIsPlain
pub mod PrintedViewIsPlain
