pub mod EndCodes
pub mod Characters
pub mod Lists
pub mod Kept
pub mod Standing
pub mod Glyphs
