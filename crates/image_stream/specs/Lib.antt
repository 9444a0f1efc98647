pub mod Sources
pub mod Segments
pub mod Answers
pub mod Outcomes
pub mod Steps
pub mod WordSums
pub mod Checksums
