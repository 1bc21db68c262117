-- The definitions that the contracts cite.
pub mod Masks
pub mod Sought
