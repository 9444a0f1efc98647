pub mod Romfs
pub mod Phases
pub mod Checked
pub mod Reported
pub mod Parts
