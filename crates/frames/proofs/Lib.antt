pub mod Laws
pub mod Unpacking
pub mod Packing
pub mod Examples
