-- Laws of the places of a trip, and what a search over them is worth.
pub mod Weights
pub mod Bridge
pub mod Search
pub mod Bounds
pub mod Before
