pub mod Sent
pub mod Stream
pub mod Back
