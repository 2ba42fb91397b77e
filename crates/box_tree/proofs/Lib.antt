pub mod Unpacked
pub mod Weighed
pub mod Near
pub mod Lists
pub mod Placed
pub mod Measured
pub mod Equal
mod Examples
