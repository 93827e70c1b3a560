pub mod Trace
pub mod Inside
