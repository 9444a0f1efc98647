pub mod Found
pub mod Law
pub mod Alike
pub mod Sections
pub mod Bodies
pub mod Runs
