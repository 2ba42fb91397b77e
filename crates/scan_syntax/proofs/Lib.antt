pub mod Bounds
pub mod Attempts
pub mod FileNames
pub mod Internals
pub mod MoreStates
pub mod Stretches
pub mod States
pub mod Finding
