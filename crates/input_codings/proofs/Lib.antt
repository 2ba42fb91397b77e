pub mod Blocks
pub mod Ends
pub mod Decodes
pub mod Next
pub mod Spelled
pub mod Short
mod Examples
