pub mod Taking
pub mod Making
