pub mod Puts
pub mod Laid
pub mod Means
pub mod Sections
pub mod Fits
pub mod Facts
pub mod Indexed
