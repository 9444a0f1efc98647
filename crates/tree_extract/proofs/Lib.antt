pub mod Chosen
mod Firsts
mod Noted
mod Inside
mod Steps
mod Making
mod DirectoryRights
mod Refusals
