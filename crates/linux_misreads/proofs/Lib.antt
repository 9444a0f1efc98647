pub mod Walked
pub mod Firsts
pub mod Printed
pub mod Alike
pub mod Devices
pub mod CramfsDevices
