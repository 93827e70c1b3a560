pub mod Fields
pub mod Filling
pub mod Unique
