pub mod EscapedTexts
pub mod PlainTexts
pub mod Written
pub mod RowsOneByOne
