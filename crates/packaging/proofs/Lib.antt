pub mod Near
pub mod Running
pub mod Bounds
pub mod Soundness
pub mod Targets
pub mod Filled
mod Examples
