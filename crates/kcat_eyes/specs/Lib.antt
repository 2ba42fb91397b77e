pub mod Eyes
pub mod Finds
pub mod Sights
pub mod StartCodes
pub mod StartBounds
