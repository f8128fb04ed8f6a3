pub mod Compress
pub mod Constants
pub mod Digest
pub mod Functions
pub mod TreeHash
pub mod Cut
