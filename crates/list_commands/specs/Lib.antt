pub mod Characters
pub mod Boxes
pub mod Standing
