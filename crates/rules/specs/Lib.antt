pub mod Conditions
pub mod Rules
pub mod States
