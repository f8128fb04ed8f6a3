pub mod Known
pub mod Laws
pub mod Meaning
pub mod Nodes
pub mod Rebuilt
pub mod Rows
pub mod Trees
pub mod Views
