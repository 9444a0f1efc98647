pub mod Patterns
pub mod Several
pub mod Reading
pub mod Rows
pub mod Literals
