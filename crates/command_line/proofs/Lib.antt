mod Rows
mod Loops
mod Plain
mod Sizes
