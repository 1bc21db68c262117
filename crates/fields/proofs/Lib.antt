-- Laws that belong to no one function.
pub mod Rays
pub mod Aheads
pub mod Nooks
pub mod Clears
pub mod Sweeps
pub mod Passes
pub mod Rowed
