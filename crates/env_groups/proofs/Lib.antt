pub mod Rows
pub mod Whole
pub mod Nesting
pub mod Keeping
