pub mod Fields
pub mod Commands
pub mod Next
pub mod Spelling
pub mod Laws
