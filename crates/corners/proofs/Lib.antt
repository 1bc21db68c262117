-- Laws that belong to no one function.
pub mod Chunks
pub mod Selects
pub mod Listed
pub mod Counts
pub mod Walks
