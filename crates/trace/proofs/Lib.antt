pub mod Tracing
pub mod Entries
