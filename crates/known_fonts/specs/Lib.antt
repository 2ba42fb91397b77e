pub mod Sizes
pub mod Metrics
pub mod Names
pub mod Placing
pub mod Selecting
pub mod Tables
pub mod Standing
pub mod Shipped
