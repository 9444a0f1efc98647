pub mod Remembers
pub mod Cache
pub mod Indices
pub mod Inner
