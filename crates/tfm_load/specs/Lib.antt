pub mod Programs
pub mod Metrics
pub mod Sound
pub mod Parted
