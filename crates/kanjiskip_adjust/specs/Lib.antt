pub mod EndCodes
pub mod Finished
pub mod Walks
pub mod Nodes
pub mod Laws
