-- The definitions that the contracts cite.
pub mod Query
pub mod Refusing
