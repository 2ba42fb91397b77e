pub mod Entries
pub mod Pieces
pub mod Spaces
pub mod Gaps
pub mod Stands
pub mod Sound
pub mod Glyphs
