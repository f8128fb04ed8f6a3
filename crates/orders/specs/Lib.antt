pub mod Conditions
pub mod Openings
pub mod Outcomes
pub mod Reading
pub mod Reports
pub mod Texts
pub mod Views
