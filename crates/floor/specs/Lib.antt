-- The definitions that the contracts cite.
pub mod Board
pub mod Refusals
pub mod Words
pub mod Lent
pub mod Cells
pub mod Codes
