pub mod Faults
pub mod Boxes
pub mod Standing
