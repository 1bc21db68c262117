-- Laws that belong to no one function.
pub mod Wiping
pub mod Telling
pub mod Retracing
