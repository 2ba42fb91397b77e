pub mod Bounds
pub mod Constants
pub mod Dimensions
pub mod Follows
pub mod Integers
pub mod Units
pub mod Leaving
pub mod Measuring
