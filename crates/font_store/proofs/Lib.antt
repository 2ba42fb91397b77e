mod Glyphs
mod Fronts
mod FirstWords
pub mod Whole
