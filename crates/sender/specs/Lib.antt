pub mod Cut
pub mod Packet
pub mod Send
pub mod Carried
pub mod Series
pub mod Inside
pub mod Rules
