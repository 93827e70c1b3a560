pub mod Hear
pub mod Receive
pub mod History
pub mod Inside
