pub mod Counted
pub mod Mapped
pub mod Flat
pub mod Physmem
pub mod InPlace
