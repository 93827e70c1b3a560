pub mod Running
pub mod Walking
pub mod Standing
pub mod Histories
