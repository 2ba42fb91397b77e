pub mod Names
pub mod Sizings
pub mod Fonts
