pub mod Names
pub mod Endings
pub mod Naming
pub mod States
pub mod Reading
pub mod Gaining
pub mod Memory
pub mod Holding
