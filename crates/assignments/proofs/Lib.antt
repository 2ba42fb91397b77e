pub mod Refusals
pub mod Fitting
pub mod Beside
pub mod Found
pub mod Leaving
