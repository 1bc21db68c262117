pub mod Tree
pub mod Offers
