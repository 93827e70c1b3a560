pub mod Placing
pub mod Account
pub mod Running
pub mod Walking
pub mod Examples
