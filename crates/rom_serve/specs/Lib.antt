pub mod Obeyed
pub mod Machines
pub mod SessionLines
