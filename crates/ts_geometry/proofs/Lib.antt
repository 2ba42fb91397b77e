pub mod Crossed
pub mod Fractions
pub mod Moved
pub mod Nested
pub mod Quotients
mod Examples
