-- The definitions that the contracts cite.
pub mod Fields
pub mod Passing
