pub mod Numbers
pub mod Judging
pub mod Unique
pub mod Examples
