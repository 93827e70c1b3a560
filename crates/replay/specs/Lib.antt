pub mod Run
pub mod Inside
