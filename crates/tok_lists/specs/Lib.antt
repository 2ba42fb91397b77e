pub mod Codes
pub mod Names
pub mod Same
pub mod Equality
pub mod StartNames
pub mod Pending
pub mod Cursors
