pub mod Spelt
mod Examples
