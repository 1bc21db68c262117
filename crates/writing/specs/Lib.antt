-- The definitions that the contracts cite.
pub mod Numbers
pub mod Answers
pub mod Growing
