-- Laws that belong to no one function.
pub mod Tallying
pub mod Matched
pub mod Sorted
