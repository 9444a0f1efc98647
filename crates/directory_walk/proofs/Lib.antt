mod Orders
mod Taken
mod Walks
mod Moved
