pub mod Sums
pub mod Linux
pub mod Dynamic
pub mod Fronts
pub mod Mapped
pub mod Regular
pub mod Files
pub mod Zeros
