pub mod Founds
pub mod Keys
pub mod Orders
pub mod Firsts
pub mod Lists
pub mod Passed
pub mod Kept
