pub mod Grown
pub mod Shown
