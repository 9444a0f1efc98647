pub mod Readers
pub mod Seen
pub mod Tables
pub mod Differences
pub mod Misreads
