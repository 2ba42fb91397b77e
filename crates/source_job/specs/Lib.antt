pub mod Words
pub mod Texts
pub mod Statuses
pub mod Pages
pub mod Promise
pub mod Asked
pub mod Sets
