-- Laws that belong to no one function.
pub mod Flagged
pub mod Charting
