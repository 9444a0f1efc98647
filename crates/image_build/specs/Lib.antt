pub mod Builds
pub mod Accepted
pub mod Streamed
pub mod Streams
pub mod Each
pub mod Images
pub mod Paddings
