pub mod FontPlacing
pub mod Outlines
pub mod Walking
