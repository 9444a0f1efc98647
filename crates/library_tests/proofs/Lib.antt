mod Known
mod Mountable
pub mod Answering
mod Lawful
mod Noted
