pub mod Places
pub mod ReadBack
pub mod Headers
pub mod Stands
pub mod Apart
pub mod Named
pub mod Leads
pub mod Files
pub mod Entries
pub mod Whole
pub mod Image
pub mod Sealed
pub mod Values
pub mod Paths
pub mod Runs
pub mod Shaped
pub mod Marked
pub mod OwnPlaces
pub mod Sectioned
pub mod Composed
pub mod Compact
mod Examples
mod Hello
