-- Laws that belong to no one function.
pub mod Linked
pub mod Onces
pub mod Risings
pub mod Pickings
pub mod Links
pub mod Insertions
pub mod Parts
pub mod Searches
pub mod Growing
pub mod Sweeping
pub mod Fielding
pub mod Seens
pub mod Linkings
