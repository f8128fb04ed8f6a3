pub mod Hex
pub mod Strings
