mod Examples
pub mod Steps
pub mod Leading
pub mod Drawing
pub mod Sound
pub mod Pens
pub mod Straight
pub mod PageReads
pub mod Whole
pub mod Writing
