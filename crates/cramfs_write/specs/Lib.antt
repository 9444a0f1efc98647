pub mod Form
pub mod Known
pub mod Streams
