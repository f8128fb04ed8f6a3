pub mod Agreed
pub mod Answered
pub mod Traced
