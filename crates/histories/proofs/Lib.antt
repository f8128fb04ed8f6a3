pub mod Continuing
pub mod Given
pub mod Living
pub mod Once
pub mod Promised
pub mod Sound
