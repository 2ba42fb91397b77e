pub mod Numbers
pub mod Directions
pub mod Crossings
pub mod Laws
