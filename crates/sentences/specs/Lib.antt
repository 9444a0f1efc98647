pub mod Endings
pub mod Faults
pub mod Manifests
pub mod Misfits
pub mod Misreads
pub mod Programs
pub mod Replies
pub mod Refusals
