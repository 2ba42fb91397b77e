pub mod Lists
pub mod Setting
pub mod Packing
pub mod Crossing
pub mod Running
pub mod Laws
