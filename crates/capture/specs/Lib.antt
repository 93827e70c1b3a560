pub mod File
pub mod Kind
pub mod Write
pub mod Adding
pub mod Inside
