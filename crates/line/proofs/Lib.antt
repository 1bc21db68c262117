-- Laws that belong to no one function.
pub mod Ways
pub mod Firsts
pub mod Runs
pub mod Legs
