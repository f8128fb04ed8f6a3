pub mod Histories
pub mod Promise
