pub mod Input
pub mod Capture
pub mod Inside
