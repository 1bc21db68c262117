-- Laws that belong to no one function.
pub mod Still
pub mod Late
pub mod Searching
pub mod Choosing
