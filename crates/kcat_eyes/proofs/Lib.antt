pub mod Examples
pub mod Finds
pub mod Turns
mod Places
pub mod Falls
