pub mod Passes
pub mod Wholes
pub mod Small
pub mod Entries
pub mod Bounds
pub mod Placers
pub mod Orders
pub mod Tables
