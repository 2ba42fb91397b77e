pub mod Metrics
pub mod Loading
pub mod Pieces
pub mod Store
pub mod Widths
pub mod Bounds
pub mod Measures
