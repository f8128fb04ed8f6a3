pub mod Carries
pub mod Leads
pub mod Paths
pub mod Strings
pub mod Trees
