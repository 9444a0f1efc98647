mod Literal
mod Rows
mod Sets
mod Steps
