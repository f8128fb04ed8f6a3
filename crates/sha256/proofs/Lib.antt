pub mod Blocks
pub mod Parts
pub mod Rounds
pub mod Words
