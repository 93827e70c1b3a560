pub mod Carrying
pub mod Loads
pub mod Examples
