pub mod Sample
pub mod SampleLaws
pub mod Kept
pub mod Fixed
