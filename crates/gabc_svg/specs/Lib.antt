pub mod Escape
pub mod Laws
pub mod OutlineNames
pub mod Page
pub mod Xml
pub mod machine
