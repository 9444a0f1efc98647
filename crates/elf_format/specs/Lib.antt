pub mod Header
pub mod Loading
pub mod Dynamic
pub mod Mapped
pub mod InPlace
pub mod Needs
pub mod Table
