pub mod Members
pub mod Least
pub mod Sound
pub mod Meaning
pub mod ByClass
pub mod Step
pub mod Running
pub mod Weights
pub mod Loose
pub mod Prepared
pub mod Ends
pub mod Ended
pub mod Inside
pub mod Opened
mod Examples
