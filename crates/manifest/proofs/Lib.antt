pub mod Adding
pub mod Checked
pub mod Digits
pub mod Keys
pub mod Named
pub mod Parents
pub mod Pieces
pub mod Reached
pub mod Whole
mod Fitting
mod Joined
mod Decimals
mod ReadBack
mod Behind
mod FirstFault
mod Passing
mod Tried
mod AllTold
