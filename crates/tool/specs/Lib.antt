pub mod Number
pub mod Address
pub mod Line
pub mod Refused
