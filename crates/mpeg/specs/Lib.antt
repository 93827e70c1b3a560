pub mod Packet
pub mod Frame
pub mod Write
pub mod HandOut
pub mod Read
pub mod Run
pub mod Channel
pub mod Inside
