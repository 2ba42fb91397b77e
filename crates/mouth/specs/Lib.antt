pub mod Reading
pub mod Changes
pub mod Tokens
pub mod Opening
pub mod Sizes
pub mod Keeping
