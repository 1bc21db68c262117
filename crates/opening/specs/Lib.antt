-- The definitions that the contracts cite.
pub mod Grounds
pub mod Openings
