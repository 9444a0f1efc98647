pub mod Errors
pub mod Components
pub mod Resolution
pub mod Graft
pub mod Compared
pub mod Trails
