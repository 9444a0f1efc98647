pub mod Names
pub mod Forms
pub mod Header
pub mod Values
pub mod Xml
