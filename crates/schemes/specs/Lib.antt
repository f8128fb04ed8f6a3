pub mod Known
pub mod Names
pub mod Tasks
