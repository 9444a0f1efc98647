pub mod Alike
pub mod Headline
pub mod Lent
pub mod Durable
pub mod Files
pub mod Romfs
pub mod Programs
