pub mod Field
pub mod State
pub mod Schedule
pub mod Cipher
pub mod Pieces
pub mod Bounds
