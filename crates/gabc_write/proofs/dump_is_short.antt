pub mod LineOfGlyph
pub mod LineOfItem
pub mod LinesOfGlyphs
pub mod LinesOfItems
pub mod LinesOfSnippets
pub mod LinesOfSyllable
pub mod LinesWithoutNotes
pub mod PiecesOfText
