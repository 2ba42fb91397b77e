pub mod Decoding
pub mod Pieces
pub mod Reading
pub mod Lines
pub mod Spelled
