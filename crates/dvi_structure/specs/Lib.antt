pub mod Places
pub mod Structure
pub mod Answers
pub mod Outline
pub mod FontPlaces
