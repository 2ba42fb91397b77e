pub mod Leaving
pub mod Numbers
pub mod Looking
pub mod Ends
pub mod Sizing
pub mod Mouths
pub mod Falls
