pub mod Order
pub mod Inode
pub mod Refers
pub mod Tree
pub mod Superblock
pub mod Made
pub mod Faults
