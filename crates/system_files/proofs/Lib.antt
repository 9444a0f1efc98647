pub mod Split
pub mod Trimmed
pub mod Fronts
