pub mod Texts
pub mod Nodes
pub mod CallNames
