pub mod Digits
pub mod Laws
pub mod Addresses
pub mod Line
pub mod Examples
