pub mod Writing
pub mod Pieces
pub mod Examples
