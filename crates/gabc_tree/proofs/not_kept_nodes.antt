pub mod Joins
pub mod FewBytes
pub mod InPlace
pub mod KeptBytes
