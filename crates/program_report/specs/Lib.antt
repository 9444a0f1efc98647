pub mod Found
pub mod Lines
pub mod Findings
pub mod Alike
pub mod FileNeeded
pub mod Effort
pub mod Needs
