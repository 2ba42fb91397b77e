pub mod SoundParts
pub mod PartsLeft
pub mod Scaling
pub mod Chain
pub mod FirstBad
pub mod Visits
pub mod Same
