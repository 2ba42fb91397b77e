pub mod Numbering
pub mod Defining
pub mod Standing
pub mod Refusals
pub mod Shipped
