pub mod Writing
pub mod Undone
pub mod Sound
pub mod Calls
pub mod Values
