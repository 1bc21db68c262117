-- The definitions that the contracts cite.
pub mod Asked
pub mod Lent
pub mod Steps
pub mod Answers
