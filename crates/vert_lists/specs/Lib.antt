pub mod Interline
