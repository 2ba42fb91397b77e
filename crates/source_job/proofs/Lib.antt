pub mod Asking
pub mod Puts
pub mod Jobs
pub mod Reporting
