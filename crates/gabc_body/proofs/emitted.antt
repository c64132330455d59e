pub mod EndsOfSnippets
pub mod EventsOfSyllableParts
pub mod OneListEachCharacter
pub mod StopIsFirst
