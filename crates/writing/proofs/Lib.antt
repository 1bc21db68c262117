-- Laws that belong to no one function.
pub mod Decimals
pub mod Puts
pub mod Unique
