-- Laws that belong to no one function.
pub mod Tests
pub mod Places
pub mod Lines
pub mod Bits
pub mod Letters
pub mod Fills
pub mod Unique
pub mod Floors
