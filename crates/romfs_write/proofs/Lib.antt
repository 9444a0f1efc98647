pub mod Puts
pub mod Sections
pub mod Facts
pub mod Laid
pub mod Means
pub mod Indexed
