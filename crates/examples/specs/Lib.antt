pub mod Constant
pub mod Examples
pub mod Setting
