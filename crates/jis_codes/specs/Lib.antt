pub mod Kuten
pub mod Spellings
pub mod Numbers
pub mod OneToOne
