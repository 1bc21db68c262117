-- The definitions that the contracts cite.
pub mod Marks
pub mod Marking
