-- Laws that belong to no one function.
pub mod Below
pub mod Tables
pub mod Numbers
pub mod Ranges
pub mod Accepted
pub mod Rests
pub mod Places
pub mod Sums
pub mod Ones
pub mod FreeCells
