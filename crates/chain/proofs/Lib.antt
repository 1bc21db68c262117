-- Laws that belong to no one function.
pub mod Single
pub mod Exists
pub mod Legal
pub mod Entries
pub mod Counting
pub mod Corners
pub mod Places
pub mod Fairness
pub mod Links
pub mod Chains
pub mod Efforts
pub mod Back
pub mod Backwards
pub mod Paving
