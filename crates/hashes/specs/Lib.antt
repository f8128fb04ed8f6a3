pub mod Practice
pub mod Bytewise
