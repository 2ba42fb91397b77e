mod Examples
pub mod Left
pub mod SoundTypes
pub mod Codes
pub mod Chain
pub mod FirstFault
pub mod Prefix
pub mod Near
