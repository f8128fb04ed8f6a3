pub mod Causing
pub mod Facts
pub mod KeyRecord
pub mod Reading
pub mod Refusing
pub mod ReleaseRecord
