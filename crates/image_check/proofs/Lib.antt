pub mod Formats
pub mod Fronts
pub mod Romfs
pub mod Cramfs
pub mod Both
pub mod Reached
pub mod Refused
