pub mod Answered
pub mod Whole
mod Filled
mod Streams
pub mod Bodies
mod Given
mod Differ
mod InCramfs
mod InRomfs
mod OwnSources
mod Unknown
pub mod Owned
mod Alike
mod Moved
mod Sizes
pub mod Meaning
mod Found
pub mod Each
pub mod Accepting
pub mod Placing
mod Sealing
