-- Inside: what functions promise each other on the way to a result. Nobody has to believe this file: the result is said without it.
-- Here: of the reader and the writer, four files of which the same is true.
pub mod Standing
pub mod Fronts
pub mod Stream
pub mod Writing
