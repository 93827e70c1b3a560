pub mod Counts
pub mod Rooms
