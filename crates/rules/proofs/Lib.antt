pub mod Accepting
pub mod Laws
pub mod Opening
pub mod Own
pub mod Refusing
pub mod Tracing
