-- The table of sums.
pub mod Drawing
pub mod Table
