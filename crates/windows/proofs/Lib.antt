-- Laws that belong to no one function.
pub mod Triples
pub mod Windows
