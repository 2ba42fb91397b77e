pub mod Same
pub mod Numbered
pub mod Growing
pub mod Flat
pub mod Rests
mod Examples
mod PendingExamples
