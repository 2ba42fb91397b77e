pub mod Nodes
pub mod Linking
pub mod Valuing
pub mod Taken
