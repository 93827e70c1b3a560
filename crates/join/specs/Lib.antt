pub mod Join
pub mod Slices
pub mod Inside
