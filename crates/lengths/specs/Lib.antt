-- The definitions that the contracts cite, and their laws, which other crates' definitions cite too.
pub mod Lengths
pub mod Fraction
pub mod Laws
pub mod Octile
pub mod Order
