pub mod Leaving
pub mod Fonts
pub mod Situated
