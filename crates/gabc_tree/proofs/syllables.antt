pub mod TextsFit
pub mod TextsOfSpans
pub mod KeptSyllables
pub mod SnippetsAreInOrder
pub mod SlicesOfSyllables
pub mod SpelledSlices
