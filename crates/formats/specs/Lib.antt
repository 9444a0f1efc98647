pub mod Begins
pub mod Capacity
pub mod Format
pub mod Reach
