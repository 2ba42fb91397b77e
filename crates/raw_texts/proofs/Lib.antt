pub mod Chains
pub mod Running
pub mod Holding
pub mod Tellings
