pub mod GlyphMachine
pub mod Glyphs
pub mod Runs
