pub mod Stable
pub mod Saying
pub mod Numbers
pub mod Values
pub mod Counts
pub mod Sets
pub mod Writing
