pub mod Bytes
pub mod Order
pub mod Stretch
pub mod Count
pub mod Each
pub mod Tests
pub mod Those
