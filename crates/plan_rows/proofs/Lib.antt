pub mod Made
pub mod Keying
pub mod Ordered
pub mod Ways
pub mod Steps
pub mod Fitting
pub mod Depths
pub mod Knowing
pub mod Keys
pub mod Putting
pub mod EntryRows
pub mod Rising
mod Names
mod Numbers
mod Firsts
mod Paths
mod Capacities
