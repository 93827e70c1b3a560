pub mod Writing
pub mod Checking
pub mod ReadsBack
pub mod Examples
pub mod Unique
pub mod Numbers
