pub mod GabcEmitsThroughEnd
pub mod NabcEmitsThroughEnd
pub mod SnippetEmitsThroughEnd
pub mod GrammarEmitsThroughEnd
