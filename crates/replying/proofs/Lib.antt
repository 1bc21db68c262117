-- Laws that belong to no one function.
pub mod Buffers
pub mod Printing
pub mod Answers
pub mod Pieces
