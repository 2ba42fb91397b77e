pub mod Environments
pub mod Tables
pub mod Undoing
pub mod Values
