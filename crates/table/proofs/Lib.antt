pub mod Keeping
pub mod Asking
pub mod Unique
pub mod Examples
