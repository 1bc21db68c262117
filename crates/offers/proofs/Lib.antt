-- The laws behind the functions' proofs, which callers' proofs may cite.
pub mod Trees
pub mod Entries
pub mod Offering
pub mod Follows
