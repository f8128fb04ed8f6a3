pub mod Facts
pub mod Refusing
