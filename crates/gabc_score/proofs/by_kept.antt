pub mod AllIsKept
pub mod CommentsKeepNothing
pub mod KeptAgainIsRead
pub mod OpenIsRead
pub mod SyllablesAreRead
