pub mod Crc
pub mod History
