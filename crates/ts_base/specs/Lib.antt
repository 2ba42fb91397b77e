pub mod Agreement
pub mod formers
