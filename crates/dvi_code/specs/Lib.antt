pub mod Pages
pub mod Reading
pub mod Straight
pub mod Laws
