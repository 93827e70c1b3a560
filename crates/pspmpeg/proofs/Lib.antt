pub mod Cutting
pub mod Rooms
pub mod Gathering
pub mod Draining
pub mod Streaming
