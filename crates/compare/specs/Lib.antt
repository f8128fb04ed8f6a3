pub mod Found
pub mod Search
pub mod Sides
pub mod Views
