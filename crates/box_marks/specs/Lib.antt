pub mod Placing
pub mod Marks
pub mod Glyphs
pub mod Bounds
pub mod Laws
