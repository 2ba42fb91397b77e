pub mod Sorts
pub mod Walking
pub mod Widows
pub mod Passing
pub mod Keeping
pub mod Sums
pub mod Soundness
pub mod Coming
