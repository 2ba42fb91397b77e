pub mod Chain
pub mod FirstFault
pub mod Prefix
pub mod Starts
pub mod Near
pub mod Ligatures
