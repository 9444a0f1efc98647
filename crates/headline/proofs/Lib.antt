pub mod Accepted
pub mod Again
pub mod LawfulNodes
pub mod OfCramfs
pub mod OfRomfs
pub mod Singles
mod Served
mod Pieces
mod Opened
mod Links
mod Replies
mod Lines
pub mod Whole
mod Paths
mod OpenedWhole
mod Volumes
mod BuiltFiles
pub mod Under
pub mod Built
pub mod Regular
pub mod InRomfs
pub mod Contents
pub mod Found
pub mod Owned
pub mod Sections
pub mod InCramfsPlan
pub mod InRomfsPlan
pub mod Planned
pub mod Known
pub mod NotRefused
pub mod Reached
pub mod Totals
pub mod Repeats
pub mod Copies
