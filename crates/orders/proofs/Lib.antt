pub mod Filled
pub mod Listed
pub mod Refusing
pub mod Reported
