pub mod Arrivals
pub mod Joining
pub mod Lending
pub mod Soundness
pub mod Coming
