pub mod Plain
pub mod Fractions
