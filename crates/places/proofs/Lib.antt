-- The laws behind the functions' proofs, which callers' proofs may cite.
pub mod Columns
pub mod Cells
pub mod Links
pub mod Charts
pub mod Told
