-- The definitions that the contracts cite.
pub mod Lists
pub mod Listing
pub mod Corners
pub mod Chunks
pub mod Bits
pub mod Walk
