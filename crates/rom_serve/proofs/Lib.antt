pub mod LongLines
pub mod PathSaid
pub mod CallKinds
pub mod Separate
pub mod SameWalk
pub mod OtherImage
pub mod OtherCalls
pub mod Untouched
