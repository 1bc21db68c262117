-- The definitions that the contracts cite.
pub mod Route
pub mod Charted
pub mod Chain
pub mod Lent
