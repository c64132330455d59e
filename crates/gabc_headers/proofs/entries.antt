pub mod BookIsReadByEntry
pub mod HeadersAreSpelled
pub mod InsertPutsEntry
pub mod MapIsReadByEntry
pub mod PuttingEntriesGivesBook
pub mod TextsAsBytes
pub mod TextsGoOn
pub mod ValuesOfNabcLines
