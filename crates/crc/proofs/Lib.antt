pub mod Xors
pub mod Linear
pub mod Joins
pub mod Relation
pub mod Bytes
pub mod Gathers
pub mod Ends
