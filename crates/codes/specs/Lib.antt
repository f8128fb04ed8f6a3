pub mod Codes
pub mod Laws
