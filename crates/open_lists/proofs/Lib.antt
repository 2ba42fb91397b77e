pub mod Lifting
pub mod Boxes
pub mod Glyphs
